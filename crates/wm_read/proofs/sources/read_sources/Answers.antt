use Rattle.std.proofs.Common.{◌+◌, ◌-◌, drop, refl, ap, ◌∙◌, arith, ℕ}
use Rattle.std.proofs.lemmas.List.Elements.{All-nil, All-push}
use Rattle.std.proofs.lemmas.List.{map-append}
use Rattle.wm_read.specs.Files.{sources_asked}
use Rattle.wm_read.specs.Given.{IsText, sources_of}
use Rattle.wm_read.specs.Seen.{bytes_of, texts_of}
use Rattle.wm_read.proofs.SourcesRead.{next_source, bad_source, first_sources, all_sources, one_left, none_left, is_text, items_counted}
use Rattle.wm_read.proofs.sources.read_sources.Goals as goal

pub loop-name-init : goal.loop-name-init
loop-name-init g c = record {
  leads = first_sources (g.F.Files.held c.args.files.now) (g.F.Files.faults c.args.files.now) (texts_of c.new-texts.result.items) c.args.names.now (ap texts_of c.new-texts.ensures.items);
  held = refl;
  count = omega arith;
  room = omega arith;
  short = rw c.new-texts.ensures.items (All-nil IsText);
}

pub returns-in-Err-clause-given : goal.returns-in-Err-clause-given
returns-in-Err-clause-given g c =
    bad_source (g.F.Files.held c.args.files.now) (g.F.Files.faults c.args.files.now) (g.F.Files.faults c.loop-name.files) (g.F.Files.faults c.read_source.new.files) (sources_asked c.args.names.now)
    c.loop-name.room (texts_of c.loop-name.texts.items) c.bytes.result.now (drop c.loop-name.name-index c.args.names.now) (drop (c.loop-name.name-index + 1) c.args.names.now)
    (one_left c.args.names.now c.loop-name.name-index c.bytes.result.now c.name-item.result c.loop-name-test.true c.name-item.is c.bytes.ensures.bytes)
    c.in-Err.fault c.read_source.ensures.count c.loop-name.invariant.leads (rw c.loop-name.invariant.held at c.in-Err.ensures.given)

pub loop-name-preserved : goal.loop-name-preserved
loop-name-preserved g c = record {
  leads =
      next_source (g.F.Files.held c.args.files.now) (g.F.Files.faults c.args.files.now) (g.F.Files.faults c.loop-name.files) (g.F.Files.faults c.read_source.new.files) (sources_asked c.args.names.now)
      c.loop-name.room (texts_of c.loop-name.texts.items) c.bytes.result.now (drop c.loop-name.name-index c.args.names.now) (drop (c.loop-name.name-index + 1) c.args.names.now)
      (one_left c.args.names.now c.loop-name.name-index c.bytes.result.now c.name-item.result c.loop-name-test.true c.name-item.is c.bytes.ensures.bytes)
      c.in-Ok.text.items (texts_of c.push.new.self.items) _ c.read_source.ensures.count (ap texts_of c.in-Ok-push.ensures.items ∙ map-append bytes_of _ _) (ap (λ (n : ℕ). c.loop-name.room - n) (c.len.ensures ∙ items_counted c.in-Ok.text)) c.loop-name.invariant.leads (rw c.loop-name.invariant.held at c.in-Ok.ensures.given);
  held = c.read_source.ensures.held ∙ c.loop-name.invariant.held;
  count = omega (arith, c.read_source.ensures.count, c.loop-name.invariant.count);
  room = omega (arith, c.loop-name.invariant.room);
  short = rw c.in-Ok-push.ensures.items (All-push IsText c.loop-name.texts.items c.in-Ok.text c.loop-name.invariant.short (is_text c.in-Ok.text c.loop-name.room c.in-Ok.ensures.short c.loop-name.invariant.room));
}

pub returns-clause-given : goal.returns-clause-given
returns-clause-given g c =
    all_sources (g.F.Files.held c.args.files.now) (g.F.Files.faults c.args.files.now) (g.F.Files.faults c.loop-name.files) c.loop-name.room (sources_of c.loop-name.texts) c.args.names.now (drop c.loop-name.name-index c.args.names.now)
    (none_left c.args.names.now c.loop-name.name-index c.loop-name-test.false) c.loop-name.invariant.leads
