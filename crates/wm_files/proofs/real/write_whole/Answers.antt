use Rattle.std.proofs.Common.{take, subst}
use Rattle.std.specs.Io.KnownBytes.{Appends}
use Rattle.wm_files.proofs.Known.{appends-kept, prefix-left, more-written, rest-whole}
use Rattle.wm_files.proofs.real.write_whole.Goals as goal

pub returns-in-Ok-eq0 : goal.returns-in-Ok-eq0
returns-in-Ok-eq0 g c =
    let kept = c.loop-rest.invariant in
    let nothing = subst (λ n. Appends (g.W.Write.contents c.loop-rest.to) (g.W.Write.contents c.write.new.self) (take n c.loop-rest.rest.now)) c.in-Ok-eq0.field-0-test c.in-Ok-eq0.ensures.bytes in
    prefix-left _ _ _ _ _ _ kept.1 kept.2 nothing

pub loop-rest-preserved : goal.loop-rest-preserved
loop-rest-preserved g c =
    let kept = c.loop-rest.invariant in
    more-written _ _ _ _ _ _ _ c.in-Ok.taken kept.1 kept.2 c.in-Ok.ensures.bytes (rest-whole c.loop-rest.rest.now c.in-Ok.taken)

pub returns-in-Err : goal.returns-in-Err
returns-in-Err g c =
    let kept = c.loop-rest.invariant in
    prefix-left _ _ _ _ _ _ kept.1 kept.2 (appends-kept _ _ c.in-Err.ensures.bytes)
