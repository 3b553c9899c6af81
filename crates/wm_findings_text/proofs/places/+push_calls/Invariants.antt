use Rattle.wm_findings_text.proofs.places.+push_calls.Given as goal

abbrev pub decreases-push_calls : goal.decreases-push_calls
decreases-push_calls l = l.levels
