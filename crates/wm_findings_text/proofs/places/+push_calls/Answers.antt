use Rattle.wm_findings_text.proofs.Calls.{call_behind}
use Rattle.wm_findings_text.proofs.places.+push_calls.Goals as goal

pub returns : goal.returns
returns t c =
    call_behind c.args.names.now c.args.instances.now c.args.levels c.in-Some.instance c.args.instance c.caller_in-caller.result c.call_in.result
    c.args.text.now.items c.push_calls.new.text.items c.push_call.new.text.items
    c.in-Some.is c.if-levels-eq0.false c.caller_in-caller.ensures c.call_in.ensures c.in_ok-push_calls.ensures c.in_ok-push_call.ensures
