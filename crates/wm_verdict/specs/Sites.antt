-- What is found of the sites of a program by the labels of the nodes of its graph.
use Rattle.std.specs.Prelude.{ℕ, ◌≡◌, ◌≤◌, List, [], ◌∷◌, Option, Some, None, length, map, take, replicate, slice_get, slice_set, slice_index_or}
use Rattle.wm_program.specs.declared.program.Program.{Program}
use Rattle.wm_program.specs.declared.program.SiteInfo.{SiteInfo}
use Rattle.wm_flow.specs.declared.action.Action.{Action}
use Rattle.wm_flow.specs.declared.graph.Edge.{Edge}
use Rattle.wm_flow.specs.declared.graph.Graph.{Graph}
use Rattle.wm_domain.specs.Points.{Point}
use Rattle.wm_findings.specs.declared.findings.Verdict.{Verdict}
use Rattle.wm_tally.specs.declared.entry.Entry.{Entry}
use Rattle.wm_tally.specs.declared.seen.Seen.{Seen}
use Rattle.wm_tally.specs.declared.seen.Seen.TheVariants.{Away}
use Rattle.wm_tally.specs.Entries.{first_entry, entry_after}
use Rattle.wm_tally.specs.Verdicts.{verdict_of}
use Rattle.wm_sight.specs.Sights.{IsSeen}
use Rattle.wm_verdict.specs.Places.{instance_at}
use Rattle.wm_verdict.specs.declared.found.Found.{Found}
use Rattle.wm_verdict.specs.declared.judge.Judge.{Judge}

-- ---- what was found, noted by site

abbrev pub noted : List Entry → Option ℕ → (instance : ℕ) → Seen → List Entry
noted entries None instance seen = entries
noted entries (Some site) instance seen = slice_set entries site (entry_after (slice_index_or entries site first_entry) instance seen)

abbrev pub noted_all : List Found → List Entry → List Entry
noted_all [] entries = entries
noted_all (one ∷ rest) entries = noted_all rest (noted entries one.site one.instance one.seen)

-- nothing has been seen of so many sites
abbrev pub no_entries : ℕ → List Entry
no_entries count = replicate count first_entry

abbrev pub verdicts_of : List Entry → List Verdict
verdicts_of entries = map verdict_of entries

-- ---- what the edges show, by the points of the labels of the nodes before them

module _ {S : Type 0} (Has : S → Point → Type 0) where
  abbrev pub IsSeenOf : Option SiteInfo → (label : Option S) → Action → Seen → Type 0
  IsSeenOf None label action seen = ⊥
  IsSeenOf (Some info) None action seen = ⊥
  IsSeenOf (Some info) (Some label) action seen = IsSeen info.kind (Has label) action seen

  -- an edge of no site shows nothing; the site of another is one of the program, and there is a label
  abbrev pub IsSeenAt : Program → (label : Option S) → Action → (site : Option ℕ) → Seen → Type 0
  IsSeenAt program label action None seen = seen ≡ Away
  IsSeenAt program label action (Some site) seen = IsSeenOf (slice_get program.sites site) label action seen

  pub record IsFound (program : Program) (graph : Graph) (label : Option S) (edge : Edge) (found : Found) : Type 0 where
    pub site : found.site ≡ edge.site
    pub instance : found.instance ≡ instance_at graph edge.source
    pub seen : IsSeenAt program label edge.action edge.site found.seen

  -- each of these edges with what it shows
  abbrev pub AreFound : Program → Graph → (labels : List S) → List Edge → List Found → Type 0
  AreFound program graph labels [] [] = Unit {0}
  AreFound program graph labels [] (one ∷ more) = ⊥
  AreFound program graph labels (edge ∷ rest) [] = ⊥
  AreFound program graph labels (edge ∷ rest) (one ∷ more) =
      IsFound program graph (slice_get labels edge.source) edge one × AreFound program graph labels rest more

  -- the edges at the head of the list with what they show by the label of one node, from which they lead
  pub record AreLeading (program : Program) (graph : Graph) (node : ℕ) (label : S) (edges : List Edge) (found : List Found) : Type 0 where
    pub inside : length found ≤ length edges
    pub are : (labels : List S) → slice_get labels node ≡ Some label → AreFound program graph labels (take (length found) edges) found

  -- the judge has seen the labels of the first nodes, and knows what the edges from these show, which stand first
  pub record IsJudged (program : Program) (graph : Graph) (labels : List S) (judge : Judge) : Type 0 where
    pub nodes : judge.nodes ≡ length labels
    pub inside : judge.edge ≤ length graph.edges
    pub found : List Found
    pub are : AreFound program graph labels (take judge.edge graph.edges) found
    pub entries : judge.entries.items ≡ noted_all found (no_entries (length program.sites))

  -- the verdicts are those of what all edges show
  pub record AreVerdicts (program : Program) (graph : Graph) (labels : List S) (verdicts : List Verdict) : Type 0 where
    pub found : List Found
    pub are : AreFound program graph labels graph.edges found
    pub verdicts_are : verdicts ≡ verdicts_of (noted_all found (no_entries (length program.sites)))
