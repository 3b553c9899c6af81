use Rattle.std.proofs.Common.{◌≡◌, ◌∙◌, ◌+ℤ◌, sym, ap, w64}
use Rattle.std.proofs.lemmas.Int.{to_z-of_z}
use Rattle.wm_octagon.specs.Layout.{opposite}
use Rattle.wm_octagon.specs.Changes.{rise}
use Rattle.wm_octagon.specs.Ways.{at}
use Rattle.wm_octagon.specs.Assigning.{read_of}
use Rattle.wm_octagon.proofs.Assigns.{risen-apart}
use Rattle.wm_octagon.proofs.assigning.AssigningChange.changed.Goals as goal
use mir.Val.{SFits}

pub returns : goal.returns
returns c =
    let s = c.args.self.now in
    let f1 : SFits w64 c.rise.result = record { sfits = c.rise.type_inv } in
    let f2 : SFits w64 c.rise-2.result = record { sfits = c.rise-2.type_inv } in
    let f3 : SFits w64 c.plus-more.result = record { sfits = c.plus-more.type_inv } in
    let f4 : SFits w64 c.read.result = record { sfits = c.read.type_inv } in
    let f5 : SFits w64 c.plus.result = record { sfits = c.plus.type_inv } in
    let more : c.plus-more.result ≡ c.rise.result +ℤ c.rise-2.result = simp to_z-of_z at c.plus-more.ensures in
    let all : c.plus.result ≡ c.read.result +ℤ c.plus-more.result = simp to_z-of_z at c.plus.ensures in
    to_z-of_z w64 c.plus.result f5 ∙ all
    ∙ ap (λ z. z +ℤ c.plus-more.result) c.read.ensures.value
    ∙ ap (λ b. read_of s.variable s.source (at s.source_row) (at s.mirror_row) b c.args.k c.args.l +ℤ c.plus-more.result) (to_z-of_z w64 c.args.bound c.ranges.bound)
    ∙ ap (λ z. read_of s.variable s.source (at s.source_row) (at s.mirror_row) c.args.bound c.args.k c.args.l +ℤ z)
    (more ∙ ap (λ z. z +ℤ c.rise-2.result) (c.rise.ensures.value ∙ ap (rise s.variable s.low s.high) c.opposite.ensures)
    ∙ ap (λ z. rise s.variable s.low s.high (opposite c.args.k) +ℤ z) c.rise-2.ensures.value)
    ∙ sym (risen-apart s.variable s.source s.low s.high (at s.source_row) (at s.mirror_row) c.args.bound c.args.k c.args.l c.if-k-l.false)
