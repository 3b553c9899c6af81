-- Values that wait while something comes.
use Rattle.std.specs.Prelude.{ℕ, suc, Bool, if◌then◌else◌, List, [], ◌∷◌, ◌++◌}
use Rattle.wm_flow.specs.declared.kept.Kept.{Kept}
use Rattle.wm_flow.specs.declared.scene.Bases.{Bases}
use Rattle.wm_flow.specs.declared.scene.Coming.{Coming}
use Rattle.wm_flow.specs.declared.scene.Held.{Held}
use Rattle.wm_flow.specs.Kept.{variable}
use Rattle.wm_flow.specs.Places.{temporary}
use Rattle.wm_flow.specs.Yields.{must_yield}
use Rattle.wm_steps.specs.declared.waits.Waiting.{Waiting}

-- one as it stands from then on, with the temporaries in use, by whether it must go to one
abbrev pub waited_by : Bool → Bases → Kept → ℕ → Waiting
waited_by must bases kept temporaries =
    if must
    then record { value = variable (temporary bases temporaries); temporaries = suc temporaries }
    else record { value = kept; temporaries = temporaries }

unfoldable pub waited : Bases → Coming → Kept → ℕ → Waiting
waited bases it kept temporaries = waited_by (must_yield bases it kept) bases kept temporaries

-- one more value, behind others
unfoldable pub with_waited : Bases → Coming → Held → Kept → Held
with_waited bases it held kept =
    record {
      values = held.values ++ (waited bases it kept held.temporaries).value ∷ [];
      temporaries = (waited bases it kept held.temporaries).temporaries;
    }

-- values one after another, behind others
unfoldable pub all_waited : Bases → Coming → Held → List Kept → Held
all_waited bases it held [] = held
all_waited bases it held (kept ∷ rest) = all_waited bases it (with_waited bases it held kept) rest
