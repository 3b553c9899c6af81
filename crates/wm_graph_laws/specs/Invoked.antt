-- The calls of functions in a body, each by how far behind the caller's its instance stands.
use Rattle.std.specs.Prelude.{ℕ}
use Rattle.wm_graph_laws.specs.Each.{Each}
use Rattle.wm_program.specs.Tree.{Expression, Arguments, Test, Target, Effect, Fresh, Tree, Constant, Named, Element, Operator, Invoke, Plain, Negate, Plus, Cast, Done, Value, Whole, From, Always, Either, Both, Not, Compare, Truth, Variable, Item, Assign, Update, Evaluate, Count, Given, Filled, Blank, Listed, Skip, Seq, Block, Empty, Declare, Act, If, IfElse, For, While, Do, Break, Continue, Return, Leave}

-- each call has an offset with this property
module _ (May : ℕ → Type 0) where
  abbrev mutual
    pub Invokes : Expression → Type 0
    Invokes (Constant z) = Unit {0}
    Invokes (Named scalar) = Unit {0}
    Invokes (Element array index site) = Invokes index
    Invokes (Operator op args site) = InvokesAmong args
    Invokes (Invoke function offset args) = May offset × InvokesAmong args
    Invokes (Plain mark x y site) = Invokes x × Invokes y
    Invokes (Negate x site) = Invokes x
    Invokes (Plus x) = Invokes x
    Invokes (Cast width x) = Invokes x

    pub InvokesAmong : Arguments → Type 0
    InvokesAmong Done = Unit {0}
    InvokesAmong (Value x narrowing rest) = Invokes x × InvokesAmong rest
    InvokesAmong (Whole array rest) = InvokesAmong rest
    InvokesAmong (From array index site rest) = Invokes index × InvokesAmong rest

  abbrev pub TestInvokes : Test → Type 0
  TestInvokes Always = Unit {0}
  TestInvokes (Either c d) = TestInvokes c × TestInvokes d
  TestInvokes (Both c d) = TestInvokes c × TestInvokes d
  TestInvokes (Not c) = TestInvokes c
  TestInvokes (Compare x mark y) = Invokes x × Invokes y
  TestInvokes (Truth x) = Invokes x

  abbrev pub TargetInvokes : Target → Type 0
  TargetInvokes (Variable scalar) = Unit {0}
  TargetInvokes (Item array index site) = Invokes index

  abbrev pub EffectInvokes : Effect → Type 0
  EffectInvokes (Assign target x narrowing) = TargetInvokes target × Invokes x
  EffectInvokes (Update target mark x arithmetic narrowing) = TargetInvokes target × Invokes x
  EffectInvokes (Evaluate x) = Invokes x
  EffectInvokes (Count call) = Unit {0}

  abbrev pub FreshInvokes : Fresh → Type 0
  FreshInvokes (Given local x narrowing) = Invokes x
  FreshInvokes (Filled local width) = Unit {0}
  FreshInvokes (Blank local count) = Unit {0}
  FreshInvokes (Listed local count values) = Unit {0}

  abbrev pub TreeInvokes : Tree → Type 0
  TreeInvokes Skip = Unit {0}
  TreeInvokes (Seq first rest) = TreeInvokes first × TreeInvokes rest
  TreeInvokes (Block tree) = TreeInvokes tree
  TreeInvokes Empty = Unit {0}
  TreeInvokes (Declare fresh) = Each FreshInvokes fresh
  TreeInvokes (Act effect) = EffectInvokes effect
  TreeInvokes (If is_counted test first) = TestInvokes test × TreeInvokes first
  TreeInvokes (IfElse is_counted test first is_else_counted otherwise) =
      TestInvokes test × TreeInvokes first × TreeInvokes otherwise
  TreeInvokes (For is_counted loop begin test after body) =
      Each EffectInvokes begin × TestInvokes test × Each EffectInvokes after × TreeInvokes body
  TreeInvokes (While is_counted loop test body) = TestInvokes test × TreeInvokes body
  TreeInvokes (Do is_counted is_tail_counted loop body test) = TreeInvokes body × TestInvokes test
  TreeInvokes (Break is_counted) = Unit {0}
  TreeInvokes (Continue is_counted) = Unit {0}
  TreeInvokes (Return x narrowing) = Invokes x
  TreeInvokes Leave = Unit {0}
