use Rattle.std.proofs.Common.{◌≡◌, ◌++◌, ◌+◌, drop}
use Rattle.wm_findings_text.specs.Sites.{site_lines}
use Rattle.wm_findings_text.proofs.sites.push_sites.Given as goal

abbrev pub invariant-loop-k : goal.invariant-loop-k
invariant-loop-k l = l.text.items ++ site_lines l.names l.program l.verdicts l.k (drop l.k l.sites) ≡ l.fn.text.items ++ site_lines l.names l.program l.verdicts 0 l.sites
