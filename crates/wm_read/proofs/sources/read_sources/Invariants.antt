use Rattle.std.proofs.Common.{◌≡◌, ◌≤◌, ℕ, List, drop, Result, All}
use Rattle.wm_report.specs.declared.fault.RunFault.{RunFault}
use Rattle.wm_read.specs.Asking.{Leads}
use Rattle.wm_read.specs.Files.{sources_asked, sources_behind}
use Rattle.wm_read.specs.Given.{IsText}
use Rattle.wm_read.specs.Seen.{texts_of}
use Rattle.wm_read.proofs.sources.read_sources.Given as goal

-- what the sources that are left lead to, behind those that were read, all lead to
abbrev pub invariant-loop-name : goal.invariant-loop-name
invariant-loop-name g l = record {
  leads : (end : ℕ) (r : Result (List (List ℕ)) RunFault) → g.F.Files.faults l.files ≤ end
      → Leads (g.F.Files.held l.initial.files) (g.F.Files.faults l.files) end (sources_behind l.room (texts_of l.texts.items) (drop l.name-index l.names)) r
      → Leads (g.F.Files.held l.initial.files) (g.F.Files.faults l.initial.files) end (sources_asked l.names) r;
  held : g.F.Files.held l.files ≡ g.F.Files.held l.initial.files;
  count : g.F.Files.faults l.initial.files ≤ g.F.Files.faults l.files;
  room : l.room ≤ 4194304;
  short : All IsText l.texts.items;
}
