use Rattle.std.proofs.Common.{◌≡◌, ◌<◌, ℕ, ◌-ℤ◌, sym, subst, w64, rules}
use Rattle.std.specs.Prelude.{FitsSigned}
use Rattle.std.proofs.lemmas.Int.{to_z-of_z}
use Rattle.wm_domain.specs.declared.form.Form.{Form}
use Rattle.wm_assign.specs.Giving.{InRange}
use Rattle.wm_formed.proofs.Pairing.{word_in, difference_in, cut_sized, words_low, words_high, differences_low, differences_high}
use Rattle.wm_formed.proofs.pairs.beside.Goals as goal

pub returns-in-None-cut-clause-allowed : goal.returns-in-None-cut-clause-allowed
returns-in-None-cut-clause-allowed g c = λ was z hw hz i d.
    let fits : FitsSigned w64 c.args.f.now.constant = search rules in
    let rest = simp to_z-of_z at c.in_ok-rest.ensures in
    c.in-None-cut.ensures.exact (z -ℤ was.values c.args.from)
    (subst (λ (f : Form). InRange (g.D.Domain.holds c.args.at.now) f (z -ℤ was.values c.args.from)) (sym rest) d)
    (difference_in c.new-differences.result z (was.values c.args.from) c.new-differences.ensures.low c.new-differences.ensures.high hw hz)

pub returns-clause-allowed : goal.returns-clause-allowed
returns-clause-allowed g c = λ was z hw hz i d.
    let fits : FitsSigned w64 c.args.f.now.constant = search rules in
    let rest = simp to_z-of_z at c.in_ok-rest.ensures in (
      (c.in-Some.ensures.exact z).1 (i, word_in c.new-words.result z c.new-words.ensures.low c.new-words.ensures.high hz),
      (c.in-Some-cut.ensures.exact (z -ℤ was.values c.args.from)).1 (
        subst (λ (f : Form). InRange (g.D.Domain.holds c.args.at.now) f (z -ℤ was.values c.args.from)) (sym rest) d,
        difference_in c.new-differences.result z (was.values c.args.from) c.new-differences.ensures.low c.new-differences.ensures.high hw hz,
      ),
    )

pub returns-clause-fit : goal.returns-clause-fit
returns-clause-fit g c = λ s t v e seen. (
  cut_sized (g.D.Domain.holds c.args.at.now) c.in_ok-rest.rest c.new-differences.result c.in-Some-cut.difference (differences_low c.new-differences.result c.new-differences.ensures.low) (differences_high c.new-differences.result c.new-differences.ensures.high) c.in-Some-cut.ensures.exact,
  cut_sized (g.D.Domain.holds c.args.at.now) c.args.f.now c.new-words.result c.in-Some.range (words_low c.new-words.result c.new-words.ensures.low) (words_high c.new-words.result c.new-words.ensures.high) c.in-Some.ensures.exact,
  subst (λ (n : ℕ). c.args.from < n) (sym e) c.requires.from,
  seen,
)

pub returns-in-None-clause-made : goal.returns-in-None-clause-made
returns-in-None-clause-made g c = λ was z h. absurd h

pub returns-in-None-cut-clause-made : goal.returns-in-None-cut-clause-made
returns-in-None-cut-clause-made g c = λ was z h. absurd h

pub returns-clause-made : goal.returns-clause-made
returns-clause-made g c = λ was z h.
    let fits : FitsSigned w64 c.args.f.now.constant = search rules in
    let rest = simp to_z-of_z at c.in_ok-rest.ensures in (
      ((c.in-Some.ensures.exact z).0 h.0).0,
      subst (λ (f : Form). InRange (g.D.Domain.holds c.args.at.now) f (z -ℤ was.values c.args.from)) rest ((c.in-Some-cut.ensures.exact (z -ℤ was.values c.args.from)).0 h.1).0,
    )
