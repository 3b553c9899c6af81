-- A command as the form of words that it stands for.
use Rattle.wm_words.specs.Words.{Form, Prove, Check, Replay, Demo, Worst, Headroom, Observe, BadWords}
use Rattle.wm_words.specs.declared.command.Command.{Command}
use Rattle.wm_words.specs.declared.command.Command.TheVariants as command

abbrev pub seen : Command → Form
seen (command.Prove spec) = Prove spec.now
seen (command.Check spec) = Check spec.now
seen (command.Replay spec samples) = Replay spec.now samples.now
seen (command.Demo stages) = Demo stages
seen (command.Worst spec) = Worst spec.now
seen (command.Headroom spec) = Headroom spec.now
seen (command.Observe spec samples) = Observe spec.now samples.now
seen command.BadWords = BadWords
