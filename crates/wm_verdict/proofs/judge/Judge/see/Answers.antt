use Rattle.std.proofs.Common.{◌≡◌, refl, ap, ◌∙◌, ◌+◌, ◌-◌, sym, subst, length, take, drop}
use Rattle.std.proofs.lemmas.List.{length-drop}
use Rattle.std.proofs.Math.Seq.{take-length}
use Rattle.wm_verdict.specs.Sites.{noted_all, AreLeading}
use Rattle.wm_verdict.proofs.Judging.{judged_next}
use Rattle.wm_verdict.proofs.judge.Judge.see.Goals as goal

pub returns-clause-judged : goal.returns-clause-judged
returns-clause-judged g c = λ labels h.
    let items = c.items-edges.result.now in
    let edge = c.args.self.now.edge in
    let rest : take (length items - edge) (drop edge items) ≡ drop edge items = ap (λ n. take n (drop edge items)) (sym (length-drop edge items)) ∙ take-length (drop edge items) in
    let whole = subst (λ es. AreLeading g.D.Domain.holds c.args.program.now c.args.graph.now c.args.self.now.nodes c.args.label.now es c.in_ok-found.found.items) rest c.in_ok-found.ensures in
    judged_next g.D.Domain.holds c.args.program.now c.args.graph.now labels c.args.label.now c.args.self.now
    (record { nodes = c.args.self.now.nodes + 1; edge = c.in-Some.edge; entries = c.note_all.new.entries }) c.items-edges.result.now c.in_ok-found.found.items
    c.items-edges.ensures.items refl
    (c.in-Some.ensures.1 ∙ ap (λ n. c.args.self.now.edge + n) (c.len.ensures ∙ sym c.as_slice.ensures.len ∙ ap length c.as_slice.ensures.value))
    (c.note_all.ensures ∙ ap (λ fs. noted_all fs c.args.self.now.entries.items) c.as_slice.ensures.value)
    whole h
