-- A block: its items between an opened and a closed scope.
use Rattle.std.proofs.Common.{◌≡◌, List, [], ◌∷◌, map, refl, sym, ap, ◌∙◌}
use Rattle.wm_lang.specs.declared.statement.Block.{Block}
use Rattle.wm_lang.specs.declared.statement.BlockItem.{BlockItem}
use Rattle.wm_lang.specs.declared.statement.BlockItem.TheVariants as inside
use Rattle.wm_lang.specs.declared.statement.Declaration.{Declaration}
use Rattle.wm_lang.specs.declared.statement.Statement.{Statement}
use Rattle.wm_lang.specs.declared.statement.Statement.TheVariants as statement
use Rattle.wm_lang.specs.declared.statement.Statement.TheOpen.{Statement-F}
use Rattle.wm_lang.specs.declared.statement.Statement.TheFolds.{fold-roll-Statement}
use Rattle.wm_members.specs.declared.state.State.{State}
use Rattle.wm_members.specs.Making.{Making}
use Rattle.wm_members.specs.States.{entered, left}
use Rattle.wm_struct.specs.Statements.{statement_step, statement_expanded, item_layer, items_expanded, block_layer}

-- two functions that agree on each variant of an item make equal lists
alike : (f g : BlockItem Statement → BlockItem (Making Statement))
    → ((d : Declaration) → f (inside.Declaration d) ≡ g (inside.Declaration d))
    → ((s : Statement) → f (inside.Statement s) ≡ g (inside.Statement s))
    → (items : List (BlockItem Statement)) → map f items ≡ map g items
alike f g p q [] = refl
alike f g p q (inside.Declaration d ∷ items) = ap (λ y. y ∷ map f items) (p d) ∙ ap (λ ys. g (inside.Declaration d) ∷ ys) (alike f g p q items)
alike f g p q (inside.Statement s ∷ items) = ap (λ y. y ∷ map f items) (q s) ∙ ap (λ ys. g (inside.Statement s) ∷ ys) (alike f g p q items)

of_block : (block : Block Statement) → statement_expanded (statement.Block block) ≡ statement_step (Statement-F.Block (block_layer block))
of_block block =
    ap statement_expanded (sym (statement.rolls-Block block))
    ∙ (fold-roll-Statement (Making Statement) statement_step (Statement-F.Block block)
    ∙ ap (λ (items : List (BlockItem (Making Statement))). statement_step (Statement-F.Block (record { first = block.first; items = items; last = block.last })))
    (alike _ item_layer (λ d. refl) (λ s. refl) block.items))

-- the block that is made, from what is made of its items
made_block : Block Statement → List (BlockItem Statement) × State → Statement × State
made_block block made = (statement.Block (record { first = block.first; items = made.0; last = block.last }), left made.1)

pub block-at : (block : Block Statement) (s t u v : State) (items : List (BlockItem Statement))
    → t ≡ entered s → items_expanded block.items t ≡ (items, u) → v ≡ left u
    → statement_expanded (statement.Block block) s ≡ (statement.Block (record { first = block.first; items = items; last = block.last }), v)
unfolding made_block
block-at block s t u v items enters makes leaves =
    ap (λ f. f s) (of_block block)
    ∙ (ap (made_block block) (ap (items_expanded block.items) (sym enters) ∙ makes)
    ∙ ap (λ (w : State). (statement.Block (record { first = block.first; items = items; last = block.last }), w)) (sym leaves))
