use Rattle.std.proofs.Common.{sym, ap}
use Rattle.std.proofs.lemmas.Result.{err_from_is_err_and}
use Rattle.wm_lex.specs.Lines.{progress_of, after_text, after_texts, at_start}
use Rattle.wm_lex.proofs.LineSteps.{items_of, fails_along, text_fails, texts_end, tokens_end, tokens_fail}
use Rattle.wm_lex.proofs.lexing.lex.Goals as goal

pub returns-in_err-read_text : goal.returns-in_err-read_text
returns-in_err-read_text c =
    let p = err_from_is_err_and c.from_residual-in_err-read_text.result c.from_residual-in_err-read_text.ensures.1 in
    let state = progress_of c.loop-file.state in
    let bad = fails_along c.in_err-read_text.field-0.0 (after_text c.loop-file.file state c.deref.result.now) (after_text c.loop-file.file state c.index-texts-file.result.items) (ap (after_text c.loop-file.file state) c.deref.ensures.value) c.in_err-read_text.ensures in
    record {
      tokens = rw (p.1, p.2) (tokens_fail c.in_err-read_text.field-0.0 (items_of c.args.texts.now)
          (text_fails state c.args.texts.now c.loop-file.file c.index-texts-file.result c.in_err-read_text.field-0.0 (after_texts 0 at_start (items_of c.args.texts.now)) c.loop-file-test.true (sym c.index-texts-file.is) bad c.loop-file.invariant));
    }

pub returns : goal.returns
returns c =
    let state = progress_of c.loop-file.state in
    record {
      tokens = tokens_end state (items_of c.args.texts.now) (texts_end state c.args.texts.now c.loop-file.file (after_texts 0 at_start (items_of c.args.texts.now)) c.loop-file-test.false c.loop-file.invariant);
    }
