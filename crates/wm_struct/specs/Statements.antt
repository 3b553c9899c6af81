-- What is made of declarations and statements.
use Rattle.std.specs.Prelude.{Bool, true, false, ◌||◌, not, List, [], ◌∷◌, ◌++◌, map, Option, Some, None, is_some}
use Rattle.wm_lang.specs.declared.expression.Identifier.{Identifier}
use Rattle.wm_lang.specs.declared.expression.Spot.{Spot}
use Rattle.wm_lang.specs.declared.expression.Call.{Call}
use Rattle.wm_lang.specs.declared.expression.Expr.{Expr}
use Rattle.wm_lang.specs.declared.statement.Word.{Word}
use Rattle.wm_lang.specs.declared.statement.Words.{Words}
use Rattle.wm_lang.specs.declared.statement.Initializer.{Initializer}
use Rattle.wm_lang.specs.declared.statement.InitializerList.{InitializerList}
use Rattle.wm_lang.specs.declared.statement.Declarator.{Declarator}
use Rattle.wm_lang.specs.declared.statement.Declarator.TheVariants as declarator
use Rattle.wm_lang.specs.declared.statement.Declaration.{Declaration}
use Rattle.wm_lang.specs.declared.statement.Simple.{Simple}
use Rattle.wm_lang.specs.declared.statement.Simple.TheVariants as simple
use Rattle.wm_lang.specs.declared.statement.Block.{Block}
use Rattle.wm_lang.specs.declared.statement.BlockItem.{BlockItem}
use Rattle.wm_lang.specs.declared.statement.BlockItem.TheVariants as inside
use Rattle.wm_lang.specs.declared.statement.Otherwise.{Otherwise}
use Rattle.wm_lang.specs.declared.statement.Statement.{Statement}
use Rattle.wm_lang.specs.declared.statement.Statement.TheVariants as statement
use Rattle.wm_lang.specs.declared.statement.Statement.TheOpen.{Statement-F}
use Rattle.wm_lang.specs.declared.statement.Statement.TheFolds.{fold-Statement}
use Rattle.wm_members.specs.declared.state.Meaning.TheVariants.{Other}
use Rattle.wm_members.specs.declared.state.State.{State}
use Rattle.wm_struct.specs.declared.statement.Head.{Head}
use Rattle.wm_members.specs.Expressions.{expanded, spot_seen, spot_made, call_seen, call_made}
use Rattle.wm_members.specs.Making.{Making, ◌>>=◌, pure, after, more, behind, maybe}
use Rattle.wm_members.specs.States.{declared, entered, left}

-- ---- statements without words of their own

abbrev pub simple_made : Simple → Making Simple
simple_made (simple.Assign spot mark at value) =
    spot_made (spot_seen spot) >>= λ s. expanded value >>= λ v. pure (simple.Assign s mark at v)
simple_made (simple.StepAfter spot mark at) = spot_made (spot_seen spot) >>= λ s. pure (simple.StepAfter s mark at)
simple_made (simple.StepBefore mark at spot) = spot_made (spot_seen spot) >>= λ s. pure (simple.StepBefore mark at s)
simple_made (simple.Call call) = call_made (call_seen call) >>= λ c. pure (simple.Call c)

-- ---- declarations

-- an extern declarator without initialiser declares nothing
abbrev pub has_initial : Declarator → Bool
has_initial (declarator.Scalar name initial) = is_some initial
has_initial (declarator.Array name bracket length initial) = is_some initial

abbrev pub declares : Words → Declarator → Bool
declares words d = not words.is_extern || has_initial d

abbrev pub initializer_made : Initializer → Making Initializer
initializer_made i = expanded i.value >>= λ value. pure (record { at = i.at; value = value })

abbrev pub list_made : InitializerList → Making InitializerList
list_made l = more expanded [] l.values >>= λ values. pure (record { at = l.at; values = values })

-- a name of a block is declared behind its length and before its initialiser; those of the file are declared already
abbrev pub declared_local : Bool → Identifier → State → State
declared_local true name s = declared name Other s
declared_local false name s = s

abbrev pub declarator_made : Bool → Declarator → Making Declarator
declarator_made is_local (declarator.Scalar name initial) =
    after (declared_local is_local name) (maybe initializer_made initial >>= λ i. pure (declarator.Scalar name i))
declarator_made is_local (declarator.Array name bracket length initial) =
    maybe expanded length >>= λ l. after (declared_local is_local name) (maybe list_made initial >>= λ i. pure (declarator.Array name bracket l i))

abbrev pub declarator_where : Bool → Bool → Declarator → List Declarator → Making (List Declarator)
declarator_where false is_local d done = pure done
declarator_where true is_local d done = declarator_made is_local d >>= λ made. pure (done ++ made ∷ [])

abbrev pub declarator_behind : Bool → Words → Declarator → List Declarator → Making (List Declarator)
declarator_behind is_local words d done = declarator_where (declares words d) is_local d done

abbrev pub declaration_made : Bool → Declaration → Making Declaration
declaration_made is_local d =
    behind (declarator_behind is_local d.words) [] d.declarators
    >>= λ declarators. pure (record { at = d.at; words = d.words; base = d.base; declarators = declarators })

-- ---- statements

abbrev pub otherwise_made : Option (Otherwise (Making Statement)) → Making (Option (Otherwise Statement))
otherwise_made None = pure None
otherwise_made (Some o) = o.body >>= λ body. pure (Some (record { word = o.word; body = body }))

abbrev pub item_made : BlockItem (Making Statement) → Making (BlockItem Statement)
item_made (inside.Declaration d) = declaration_made true d >>= λ made. pure (inside.Declaration made)
item_made (inside.Statement s) = s >>= λ made. pure (inside.Statement made)

abbrev pub block_made : Block (Making Statement) → Making (Block Statement)
block_made block =
    after entered (more item_made [] block.items >>= λ items. after left (pure (record { first = block.first; items = items; last = block.last })))

abbrev pub choice_made : Word → Expr → Making Statement → Option (Otherwise (Making Statement)) → Making Statement
choice_made word condition first otherwise =
    expanded condition >>= λ c. first >>= λ f. otherwise_made otherwise >>= λ o. pure (statement.If word c f o)

abbrev pub head_made : List Simple → Option Expr → List Simple → Making Head
head_made begin condition step =
    more simple_made [] begin
    >>= λ b. maybe expanded condition
    >>= λ c. more simple_made [] step
    >>= λ s. pure (record { begin = b; condition = c; step = s })

abbrev pub for_made : Word → Head → Making Statement → Making Statement
for_made word head body = body >>= λ made. pure (statement.For word head.begin head.condition head.step made)

abbrev pub while_made : Word → Expr → Making Statement → Making Statement
while_made word condition body = expanded condition >>= λ c. body >>= λ made. pure (statement.While word c made)

abbrev pub do_made : Word → Making Statement → Word → Expr → Making Statement
do_made word body tail condition = body >>= λ made. expanded condition >>= λ c. pure (statement.Do word made tail c)

abbrev pub statement_step : Statement-F (Making Statement) → Making Statement
statement_step (Statement-F.Block block) = block_made block >>= λ made. pure (statement.Block made)
statement_step (Statement-F.Empty at) = pure (statement.Empty at)
statement_step (Statement-F.Simple s) = simple_made s >>= λ made. pure (statement.Simple made)
statement_step (Statement-F.If word condition first otherwise) = choice_made word condition first otherwise
statement_step (Statement-F.For word begin condition step body) = head_made begin condition step >>= λ head. for_made word head body
statement_step (Statement-F.While word condition body) = while_made word condition body
statement_step (Statement-F.Do word body tail condition) = do_made word body tail condition
statement_step (Statement-F.Break word) = pure (statement.Break word)
statement_step (Statement-F.Continue word) = pure (statement.Continue word)
statement_step (Statement-F.Return at value) = maybe expanded value >>= λ v. pure (statement.Return at v)

abbrev pub statement_expanded : Statement → Making Statement
statement_expanded = fold-Statement (Making Statement) statement_step

-- ---- parts of statements, each with what is made of those inside

abbrev pub item_layer : BlockItem Statement → BlockItem (Making Statement)
item_layer (inside.Declaration d) = inside.Declaration d
item_layer (inside.Statement s) = inside.Statement (statement_expanded s)

abbrev pub block_layer : Block Statement → Block (Making Statement)
block_layer block = record { first = block.first; items = map item_layer block.items; last = block.last }

abbrev pub otherwise_layer : Option (Otherwise Statement) → Option (Otherwise (Making Statement))
otherwise_layer None = None
otherwise_layer (Some o) = Some (record { word = o.word; body = statement_expanded o.body })

abbrev pub items_expanded : List (BlockItem Statement) → Making (List (BlockItem Statement))
items_expanded items = more item_made [] (map item_layer items)
