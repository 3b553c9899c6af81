use Rattle.std.proofs.Common.{◌∷◌, [], ap, sym, ◌∙◌, arith}
use Rattle.wm_lex.specs.declared.lexeme.Lexeme.{Lexeme}
use Rattle.std.proofs.Common.{List}
use Rattle.wm_lex.specs.Lines.{progress_of}
use Rattle.wm_lex.specs.Replacing.{made, replaced}
use Rattle.wm_lex.proofs.Expansion.{room_left, made_some, made_none, macro_made, macro_loops, macro_full}
use Rattle.wm_lex.proofs.state.State.read_macro.Goals as goal

pub invariant_of-self-in-Some : goal.invariant_of-self-in-Some
invariant_of-self-in-Some c =
    let s = c.args.self.now in
    let r = replaced s.definitions c.args.place s.room s.tokens.items c.from_ref-one.result.now in
    let done = made_some c.in_ok-room.field-0 c.in-Some.room c.replace.new.tokens.items r c.in_ok-room.ensures c.in-Some.is in
    let le = room_left s.definitions c.args.place s.room s.tokens.items c.from_ref-one.result.now (made c.replace.new.tokens.items c.in-Some.room) done in
    record { within = omega (arith, le, s.within) }

pub returns-in-Some : goal.returns-in-Some
returns-in-Some c =
    let s = c.args.self.now in
    let r = replaced s.definitions c.args.place s.room s.tokens.items c.from_ref-one.result.now in
    let done = made_some c.in_ok-room.field-0 c.in-Some.room c.replace.new.tokens.items r c.in_ok-room.ensures c.in-Some.is in
    macro_made (progress_of s) c.args.place c.args.lexeme.now (made c.replace.new.tokens.items c.in-Some.room) s.within
    (ap (λ (l : List Lexeme). replaced s.definitions c.args.place s.room s.tokens.items l) (sym c.from_ref-one.ensures.value) ∙ done)

pub returns-then-branch : goal.returns-then-branch
returns-then-branch c = macro_loops (progress_of c.args.self.now) c.args.place c.args.lexeme.now (sym c.in_ok-loops-in-None.ensures ∙ c.if-branch.true)

pub returns-else-branch : goal.returns-else-branch
returns-else-branch c =
    let s = c.args.self.now in
    let r = replaced s.definitions c.args.place s.room s.tokens.items c.from_ref-one.result.now in
    let none = made_none c.in_ok-room.field-0 c.replace.new.tokens.items r c.in_ok-room.ensures c.in-None.is in
    macro_full (progress_of s) c.args.place c.args.lexeme.now (sym c.in_ok-loops-in-None.ensures ∙ c.if-branch.false)
    (ap (λ (l : List Lexeme). replaced s.definitions c.args.place s.room s.tokens.items l) (sym c.from_ref-one.ensures.value) ∙ none)
