use Rattle.std.proofs.Common.{sym, arith}
use Rattle.std.proofs.lemmas.List.{nil_from_length}
use Rattle.wm_lex.specs.Replacing.{replaced}
use Rattle.wm_lex.proofs.Expansion.{list_done, no_room, lexeme_token, lexeme_list, lists_end}
use Rattle.wm_lex.proofs.replacement.replace.Goals as goal

pub lists-preserved-in_default-split_first : goal.lists-preserved-in_default-split_first
lists-preserved-in_default-split_first c =
    list_done c.args.definitions.now c.args.place c.lists.room c.lists.tokens.items c.lists.open.items c.pop.new.self.items c.in-Some.list (replaced c.args.definitions.now c.args.place c.args.room c.args.tokens.now.items c.args.list.now) c.in-Some.ensures.items (nil_from_length c.in-Some.list.now c.in_default-split_first.ensures.cases) c.lists.invariant

pub returns-then-room-eq0 : goal.returns-then-room-eq0
returns-then-room-eq0 c =
    sym (no_room c.args.definitions.now c.args.place c.lists.room c.lists.tokens.items c.lists.open.items c.pop.new.self.items c.in-Some.list c.in-Some-split_first.lexeme.now c.in-Some-split_first.left.now (replaced c.args.definitions.now c.args.place c.args.room c.args.tokens.now.items c.args.list.now) c.in-Some.ensures.items c.in-Some-split_first.ensures.cases.0 c.if-room-eq0.true c.lists.invariant)

pub lists-preserved-in_default-replacement_of : goal.lists-preserved-in_default-replacement_of
lists-preserved-in_default-replacement_of c =
    rw (c.in_ok-push-3.ensures.items, c.in_ok-push-2.ensures.items, c.in_ok-token_of.ensures)
    (lexeme_token c.args.definitions.now c.args.place c.lists.room c.lists.tokens.items c.lists.open.items c.pop.new.self.items c.in-Some.list c.in-Some-split_first.lexeme.now c.in-Some-split_first.left (replaced c.args.definitions.now c.args.place c.args.room c.args.tokens.now.items c.args.list.now) c.in-Some.ensures.items c.in-Some-split_first.ensures.cases.0 (omega arith) (sym c.in_default-replacement_of.ensures) c.lists.invariant)

pub lists-preserved : goal.lists-preserved
lists-preserved c =
    rw (c.in_ok-push-4.ensures.items, c.in_ok-push-2.ensures.items)
    (lexeme_list c.args.definitions.now c.args.place c.lists.room c.lists.tokens.items c.lists.open.items c.pop.new.self.items c.in-Some.list c.in-Some-split_first.lexeme.now c.in-Some-split_first.left c.in-Some-replacement_of.inner (replaced c.args.definitions.now c.args.place c.args.room c.args.tokens.now.items c.args.list.now) c.in-Some.ensures.items c.in-Some-split_first.ensures.cases.0 (omega arith) (sym c.in-Some-replacement_of.ensures) c.lists.invariant)

pub returns : goal.returns
returns c =
    sym (lists_end c.args.definitions.now c.args.place c.lists.room c.lists.tokens.items c.lists.open.items (replaced c.args.definitions.now c.args.place c.args.room c.args.tokens.now.items c.args.list.now) (nil_from_length c.lists.open.items (omega (arith, c.in_default.ensures.cases.0, c.lists.open.ok.0))) c.lists.invariant)
