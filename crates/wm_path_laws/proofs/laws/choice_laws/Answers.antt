use Rattle.wm_path_laws.proofs.Given.{gives_the_worst}
use Rattle.wm_path_laws.proofs.Having.{each_list_is_chosen}
use Rattle.wm_path_laws.proofs.Only.{one_is_worst}
use Rattle.wm_path_laws.proofs.laws.choice_laws.Goals as goal

pub returns : goal.returns
returns c = record { gives_the_worst = gives_the_worst; one_is_worst = one_is_worst; each_list_is_chosen = each_list_is_chosen }
