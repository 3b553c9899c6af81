-- The plain tree of a block.
use Rattle.std.proofs.Common.{◌≡◌, refl, sym, ap, ◌∙◌, List, [], ◌∷◌, map}
use Rattle.wm_lang.specs.declared.statement.Block.{Block as BlockNode}
use Rattle.wm_lang.specs.declared.statement.BlockItem.{BlockItem}
use Rattle.wm_lang.specs.declared.statement.BlockItem.TheVariants as item
use Rattle.wm_lang.specs.declared.statement.Declaration.{Declaration}
use Rattle.wm_lang.specs.declared.statement.Statement.{Statement}
use Rattle.wm_lang.specs.declared.statement.Statement.TheFolds.{fold-roll-Statement}
use Rattle.wm_lang.specs.declared.statement.Statement.TheOpen.{Statement-F}
use Rattle.wm_lang.specs.declared.statement.Statement.TheVariants as statement
use Rattle.wm_source.specs.Pieces.{Piece, Block, piece_step, piece_of, pieces_of, written_item, written_items}

-- two functions that agree on each variant of an item make equal lists
alike : (f g : BlockItem Statement → BlockItem Piece) → ((it : Declaration) → f (item.Declaration it) ≡ g (item.Declaration it)) → ((it : Statement) → f (item.Statement it) ≡ g (item.Statement it)) → (xs : List (BlockItem Statement)) → map f xs ≡ map g xs
alike f g p q [] = refl
alike f g p q (item.Declaration it ∷ xs) = ap (λ y. y ∷ map f xs) (p it) ∙ ap (λ ys. g (item.Declaration it) ∷ ys) (alike f g p q xs)
alike f g p q (item.Statement it ∷ xs) = ap (λ y. y ∷ map f xs) (q it) ∙ ap (λ ys. g (item.Statement it) ∷ ys) (alike f g p q xs)

pub of_block : (block : BlockNode Statement) → piece_of (statement.Block block) ≡ Block block.first (written_items block.items) block.last
of_block block =
    ap piece_of (sym (statement.rolls-Block block))
    ∙ (fold-roll-Statement Piece piece_step (Statement-F.Block block)
    ∙ ap (λ items. Block block.first (pieces_of items) block.last) (alike _ written_item (λ it. refl) (λ it. refl) block.items))
