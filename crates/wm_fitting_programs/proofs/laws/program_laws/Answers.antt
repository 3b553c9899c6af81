-- The laws.
use Rattle.wm_fitting_programs.proofs.Choosing.{chooser_fits}
use Rattle.wm_fitting_programs.proofs.Entries.{frames_fit}
use Rattle.wm_fitting_programs.proofs.Offsets.{offsets_count}
use Rattle.wm_fitting_programs.proofs.Programs.{programs_fit}
use Rattle.wm_fitting_programs.proofs.laws.program_laws.Goals as goal

pub returns : goal.returns
returns c = record { programs = programs_fit; offsets = offsets_count; choosers = chooser_fits; frames = frames_fit }
