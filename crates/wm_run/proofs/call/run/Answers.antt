use Rattle.std.proofs.Common.{inl, inr}
use Rattle.std.specs.Prelude.{map, string_bytes}
use Rattle.wm_run.specs.Outcome.{decided}
use Rattle.wm_run.specs.World.{world_of}
use Rattle.wm_run.specs.Ends.{call_of}
use Rattle.wm_run.proofs.Causes.{answered, holds_after, kept_after, only_memory, read_fails, sink_fails, unknown}
use Rattle.wm_run.proofs.Completing.{check_completes, check_refuses, demo_completes, headroom_completes, observe_completes, prove_completes, replay_completes, tells_refusal, worst_completes}
use Rattle.wm_run.proofs.Told.{ends_as_told, memory_as_told}
use Rattle.wm_run.proofs.call.run.Goals as goal

pub returns-in-Ok-clause-told : goal.returns-in-Ok-clause-told
returns-in-Ok-clause-told g c =
    ends_as_told (call_of (map string_bytes c.args.words.now) (world_of (g.F.Files.held c.args.files.now) (g.F.Files.held c.outcome_of.new.files) (g.F.Files.faults c.args.files.now) (g.F.Files.faults c.outcome_of.new.files))
    (g.S.Sink.written c.args.out.now) (g.S.Sink.written c.put_outcome.new.out) (g.S.Sink.faults c.args.out.now) (g.S.Sink.faults c.put_outcome.new.out))
    c.put_outcome.result (decided c.in-Ok.outcome) c.in-Ok.ensures.leads c.in-Ok.ensures.own c.put_outcome.ensures.end

pub returns-in-Ok-clause-answered : goal.returns-in-Ok-clause-answered
returns-in-Ok-clause-answered g c =
    answered (call_of (map string_bytes c.args.words.now) (world_of (g.F.Files.held c.args.files.now) (g.F.Files.held c.outcome_of.new.files) (g.F.Files.faults c.args.files.now) (g.F.Files.faults c.outcome_of.new.files))
    (g.S.Sink.written c.args.out.now) (g.S.Sink.written c.put_outcome.new.out) (g.S.Sink.faults c.args.out.now) (g.S.Sink.faults c.put_outcome.new.out))
    (decided c.in-Ok.outcome) c.put_outcome.result c.in-Ok.ensures.leads c.put_outcome.ensures.end

pub returns-in-Ok-clause-read_fails : goal.returns-in-Ok-clause-read_fails
returns-in-Ok-clause-read_fails g c =
    read_fails (call_of (map string_bytes c.args.words.now) (world_of (g.F.Files.held c.args.files.now) (g.F.Files.held c.outcome_of.new.files) (g.F.Files.faults c.args.files.now) (g.F.Files.faults c.outcome_of.new.files))
    (g.S.Sink.written c.args.out.now) (g.S.Sink.written c.put_outcome.new.out) (g.S.Sink.faults c.args.out.now) (g.S.Sink.faults c.put_outcome.new.out))
    (decided c.in-Ok.outcome) c.put_outcome.result c.in-Ok.ensures.leads c.in-Ok.ensures.own c.put_outcome.ensures.end

pub returns-in-Ok-clause-sink_fails : goal.returns-in-Ok-clause-sink_fails
returns-in-Ok-clause-sink_fails g c =
    sink_fails (call_of (map string_bytes c.args.words.now) (world_of (g.F.Files.held c.args.files.now) (g.F.Files.held c.outcome_of.new.files) (g.F.Files.faults c.args.files.now) (g.F.Files.faults c.outcome_of.new.files))
    (g.S.Sink.written c.args.out.now) (g.S.Sink.written c.put_outcome.new.out) (g.S.Sink.faults c.args.out.now) (g.S.Sink.faults c.put_outcome.new.out))
    (decided c.in-Ok.outcome) c.put_outcome.result c.in-Ok.ensures.leads c.in-Ok.ensures.own c.put_outcome.ensures.end

pub returns-in-Ok-clause-memory : goal.returns-in-Ok-clause-memory
returns-in-Ok-clause-memory g c =
    only_memory (call_of (map string_bytes c.args.words.now) (world_of (g.F.Files.held c.args.files.now) (g.F.Files.held c.outcome_of.new.files) (g.F.Files.faults c.args.files.now) (g.F.Files.faults c.outcome_of.new.files))
    (g.S.Sink.written c.args.out.now) (g.S.Sink.written c.put_outcome.new.out) (g.S.Sink.faults c.args.out.now) (g.S.Sink.faults c.put_outcome.new.out))
    (decided c.in-Ok.outcome) c.put_outcome.result c.in-Ok.ensures.leads c.in-Ok.ensures.own c.put_outcome.ensures.end

pub returns-in-Ok-clause-unknown_words : goal.returns-in-Ok-clause-unknown_words
returns-in-Ok-clause-unknown_words g c =
    unknown (call_of (map string_bytes c.args.words.now) (world_of (g.F.Files.held c.args.files.now) (g.F.Files.held c.outcome_of.new.files) (g.F.Files.faults c.args.files.now) (g.F.Files.faults c.outcome_of.new.files))
    (g.S.Sink.written c.args.out.now) (g.S.Sink.written c.put_outcome.new.out) (g.S.Sink.faults c.args.out.now) (g.S.Sink.faults c.put_outcome.new.out))
    (decided c.in-Ok.outcome) c.put_outcome.result c.in-Ok.ensures.leads c.in-Ok.ensures.own c.put_outcome.ensures.end

pub returns-in-Ok-clause-held : goal.returns-in-Ok-clause-held
returns-in-Ok-clause-held g c =
    holds_after (call_of (map string_bytes c.args.words.now) (world_of (g.F.Files.held c.args.files.now) (g.F.Files.held c.outcome_of.new.files) (g.F.Files.faults c.args.files.now) (g.F.Files.faults c.outcome_of.new.files))
    (g.S.Sink.written c.args.out.now) (g.S.Sink.written c.put_outcome.new.out) (g.S.Sink.faults c.args.out.now) (g.S.Sink.faults c.put_outcome.new.out))
    (decided c.in-Ok.outcome) c.in-Ok.ensures.leads

pub returns-in-Err-clause-told : goal.returns-in-Err-clause-told
returns-in-Err-clause-told g c =
    memory_as_told (call_of (map string_bytes c.args.words.now) (world_of (g.F.Files.held c.args.files.now) (g.F.Files.held c.outcome_of.new.files) (g.F.Files.faults c.args.files.now) (g.F.Files.faults c.outcome_of.new.files))
    (g.S.Sink.written c.args.out.now) (g.S.Sink.written c.put_memory.new.out) (g.S.Sink.faults c.args.out.now) (g.S.Sink.faults c.put_memory.new.out))
    c.put_memory.result (record { kept = c.in-Err.ensures.kept; memory = c.put_memory.ensures.end })

pub returns-in-Err-clause-held : goal.returns-in-Err-clause-held
returns-in-Err-clause-held g c =
    kept_after (call_of (map string_bytes c.args.words.now) (world_of (g.F.Files.held c.args.files.now) (g.F.Files.held c.outcome_of.new.files) (g.F.Files.faults c.args.files.now) (g.F.Files.faults c.outcome_of.new.files))
    (g.S.Sink.written c.args.out.now) (g.S.Sink.written c.put_memory.new.out) (g.S.Sink.faults c.args.out.now) (g.S.Sink.faults c.put_memory.new.out))
    c.in-Err.ensures.kept

pub returns-in-Ok-clause-refuses : goal.returns-in-Ok-clause-refuses
returns-in-Ok-clause-refuses g c =
    tells_refusal (call_of (map string_bytes c.args.words.now) (world_of (g.F.Files.held c.args.files.now) (g.F.Files.held c.outcome_of.new.files) (g.F.Files.faults c.args.files.now) (g.F.Files.faults c.outcome_of.new.files))
    (g.S.Sink.written c.args.out.now) (g.S.Sink.written c.put_outcome.new.out) (g.S.Sink.faults c.args.out.now) (g.S.Sink.faults c.put_outcome.new.out))
    c.put_outcome.result (returns-in-Ok-clause-told g c)

pub returns-in-Ok-clause-prove_completes : goal.returns-in-Ok-clause-prove_completes
returns-in-Ok-clause-prove_completes g c =
    prove_completes (call_of (map string_bytes c.args.words.now) (world_of (g.F.Files.held c.args.files.now) (g.F.Files.held c.outcome_of.new.files) (g.F.Files.faults c.args.files.now) (g.F.Files.faults c.outcome_of.new.files))
    (g.S.Sink.written c.args.out.now) (g.S.Sink.written c.put_outcome.new.out) (g.S.Sink.faults c.args.out.now) (g.S.Sink.faults c.put_outcome.new.out))
    c.put_outcome.result (returns-in-Ok-clause-told g c)

pub returns-in-Ok-clause-worst_completes : goal.returns-in-Ok-clause-worst_completes
returns-in-Ok-clause-worst_completes g c =
    worst_completes (call_of (map string_bytes c.args.words.now) (world_of (g.F.Files.held c.args.files.now) (g.F.Files.held c.outcome_of.new.files) (g.F.Files.faults c.args.files.now) (g.F.Files.faults c.outcome_of.new.files))
    (g.S.Sink.written c.args.out.now) (g.S.Sink.written c.put_outcome.new.out) (g.S.Sink.faults c.args.out.now) (g.S.Sink.faults c.put_outcome.new.out))
    c.put_outcome.result (returns-in-Ok-clause-told g c)

pub returns-in-Ok-clause-headroom_completes : goal.returns-in-Ok-clause-headroom_completes
returns-in-Ok-clause-headroom_completes g c =
    headroom_completes (call_of (map string_bytes c.args.words.now) (world_of (g.F.Files.held c.args.files.now) (g.F.Files.held c.outcome_of.new.files) (g.F.Files.faults c.args.files.now) (g.F.Files.faults c.outcome_of.new.files))
    (g.S.Sink.written c.args.out.now) (g.S.Sink.written c.put_outcome.new.out) (g.S.Sink.faults c.args.out.now) (g.S.Sink.faults c.put_outcome.new.out))
    c.put_outcome.result (returns-in-Ok-clause-told g c)

pub returns-in-Ok-clause-check_completes : goal.returns-in-Ok-clause-check_completes
returns-in-Ok-clause-check_completes g c =
    check_completes (call_of (map string_bytes c.args.words.now) (world_of (g.F.Files.held c.args.files.now) (g.F.Files.held c.outcome_of.new.files) (g.F.Files.faults c.args.files.now) (g.F.Files.faults c.outcome_of.new.files))
    (g.S.Sink.written c.args.out.now) (g.S.Sink.written c.put_outcome.new.out) (g.S.Sink.faults c.args.out.now) (g.S.Sink.faults c.put_outcome.new.out))
    c.put_outcome.result (returns-in-Ok-clause-told g c)

pub returns-in-Ok-clause-check_refuses : goal.returns-in-Ok-clause-check_refuses
returns-in-Ok-clause-check_refuses g c =
    check_refuses (call_of (map string_bytes c.args.words.now) (world_of (g.F.Files.held c.args.files.now) (g.F.Files.held c.outcome_of.new.files) (g.F.Files.faults c.args.files.now) (g.F.Files.faults c.outcome_of.new.files))
    (g.S.Sink.written c.args.out.now) (g.S.Sink.written c.put_outcome.new.out) (g.S.Sink.faults c.args.out.now) (g.S.Sink.faults c.put_outcome.new.out))
    c.put_outcome.result (returns-in-Ok-clause-told g c)

pub returns-in-Ok-clause-replay_completes : goal.returns-in-Ok-clause-replay_completes
returns-in-Ok-clause-replay_completes g c =
    replay_completes (call_of (map string_bytes c.args.words.now) (world_of (g.F.Files.held c.args.files.now) (g.F.Files.held c.outcome_of.new.files) (g.F.Files.faults c.args.files.now) (g.F.Files.faults c.outcome_of.new.files))
    (g.S.Sink.written c.args.out.now) (g.S.Sink.written c.put_outcome.new.out) (g.S.Sink.faults c.args.out.now) (g.S.Sink.faults c.put_outcome.new.out))
    c.put_outcome.result (returns-in-Ok-clause-told g c)

pub returns-in-Ok-clause-observe_completes : goal.returns-in-Ok-clause-observe_completes
returns-in-Ok-clause-observe_completes g c =
    observe_completes (call_of (map string_bytes c.args.words.now) (world_of (g.F.Files.held c.args.files.now) (g.F.Files.held c.outcome_of.new.files) (g.F.Files.faults c.args.files.now) (g.F.Files.faults c.outcome_of.new.files))
    (g.S.Sink.written c.args.out.now) (g.S.Sink.written c.put_outcome.new.out) (g.S.Sink.faults c.args.out.now) (g.S.Sink.faults c.put_outcome.new.out))
    c.put_outcome.result (returns-in-Ok-clause-told g c)

pub returns-in-Ok-clause-demo_completes : goal.returns-in-Ok-clause-demo_completes
returns-in-Ok-clause-demo_completes g c =
    demo_completes (call_of (map string_bytes c.args.words.now) (world_of (g.F.Files.held c.args.files.now) (g.F.Files.held c.outcome_of.new.files) (g.F.Files.faults c.args.files.now) (g.F.Files.faults c.outcome_of.new.files))
    (g.S.Sink.written c.args.out.now) (g.S.Sink.written c.put_outcome.new.out) (g.S.Sink.faults c.args.out.now) (g.S.Sink.faults c.put_outcome.new.out))
    c.put_outcome.result (inl (record { decision = decided c.in-Ok.outcome; decides = c.in-Ok.ensures.leads; own = c.in-Ok.ensures.own; put = c.put_outcome.ensures.end }))

pub returns-in-Err-clause-refuses : goal.returns-in-Err-clause-refuses
returns-in-Err-clause-refuses g c =
    tells_refusal (call_of (map string_bytes c.args.words.now) (world_of (g.F.Files.held c.args.files.now) (g.F.Files.held c.outcome_of.new.files) (g.F.Files.faults c.args.files.now) (g.F.Files.faults c.outcome_of.new.files))
    (g.S.Sink.written c.args.out.now) (g.S.Sink.written c.put_memory.new.out) (g.S.Sink.faults c.args.out.now) (g.S.Sink.faults c.put_memory.new.out))
    c.put_memory.result (returns-in-Err-clause-told g c)

pub returns-in-Err-clause-prove_completes : goal.returns-in-Err-clause-prove_completes
returns-in-Err-clause-prove_completes g c =
    prove_completes (call_of (map string_bytes c.args.words.now) (world_of (g.F.Files.held c.args.files.now) (g.F.Files.held c.outcome_of.new.files) (g.F.Files.faults c.args.files.now) (g.F.Files.faults c.outcome_of.new.files))
    (g.S.Sink.written c.args.out.now) (g.S.Sink.written c.put_memory.new.out) (g.S.Sink.faults c.args.out.now) (g.S.Sink.faults c.put_memory.new.out))
    c.put_memory.result (returns-in-Err-clause-told g c)

pub returns-in-Err-clause-worst_completes : goal.returns-in-Err-clause-worst_completes
returns-in-Err-clause-worst_completes g c =
    worst_completes (call_of (map string_bytes c.args.words.now) (world_of (g.F.Files.held c.args.files.now) (g.F.Files.held c.outcome_of.new.files) (g.F.Files.faults c.args.files.now) (g.F.Files.faults c.outcome_of.new.files))
    (g.S.Sink.written c.args.out.now) (g.S.Sink.written c.put_memory.new.out) (g.S.Sink.faults c.args.out.now) (g.S.Sink.faults c.put_memory.new.out))
    c.put_memory.result (returns-in-Err-clause-told g c)

pub returns-in-Err-clause-headroom_completes : goal.returns-in-Err-clause-headroom_completes
returns-in-Err-clause-headroom_completes g c =
    headroom_completes (call_of (map string_bytes c.args.words.now) (world_of (g.F.Files.held c.args.files.now) (g.F.Files.held c.outcome_of.new.files) (g.F.Files.faults c.args.files.now) (g.F.Files.faults c.outcome_of.new.files))
    (g.S.Sink.written c.args.out.now) (g.S.Sink.written c.put_memory.new.out) (g.S.Sink.faults c.args.out.now) (g.S.Sink.faults c.put_memory.new.out))
    c.put_memory.result (returns-in-Err-clause-told g c)

pub returns-in-Err-clause-check_completes : goal.returns-in-Err-clause-check_completes
returns-in-Err-clause-check_completes g c =
    check_completes (call_of (map string_bytes c.args.words.now) (world_of (g.F.Files.held c.args.files.now) (g.F.Files.held c.outcome_of.new.files) (g.F.Files.faults c.args.files.now) (g.F.Files.faults c.outcome_of.new.files))
    (g.S.Sink.written c.args.out.now) (g.S.Sink.written c.put_memory.new.out) (g.S.Sink.faults c.args.out.now) (g.S.Sink.faults c.put_memory.new.out))
    c.put_memory.result (returns-in-Err-clause-told g c)

pub returns-in-Err-clause-check_refuses : goal.returns-in-Err-clause-check_refuses
returns-in-Err-clause-check_refuses g c =
    check_refuses (call_of (map string_bytes c.args.words.now) (world_of (g.F.Files.held c.args.files.now) (g.F.Files.held c.outcome_of.new.files) (g.F.Files.faults c.args.files.now) (g.F.Files.faults c.outcome_of.new.files))
    (g.S.Sink.written c.args.out.now) (g.S.Sink.written c.put_memory.new.out) (g.S.Sink.faults c.args.out.now) (g.S.Sink.faults c.put_memory.new.out))
    c.put_memory.result (returns-in-Err-clause-told g c)

pub returns-in-Err-clause-replay_completes : goal.returns-in-Err-clause-replay_completes
returns-in-Err-clause-replay_completes g c =
    replay_completes (call_of (map string_bytes c.args.words.now) (world_of (g.F.Files.held c.args.files.now) (g.F.Files.held c.outcome_of.new.files) (g.F.Files.faults c.args.files.now) (g.F.Files.faults c.outcome_of.new.files))
    (g.S.Sink.written c.args.out.now) (g.S.Sink.written c.put_memory.new.out) (g.S.Sink.faults c.args.out.now) (g.S.Sink.faults c.put_memory.new.out))
    c.put_memory.result (returns-in-Err-clause-told g c)

pub returns-in-Err-clause-observe_completes : goal.returns-in-Err-clause-observe_completes
returns-in-Err-clause-observe_completes g c =
    observe_completes (call_of (map string_bytes c.args.words.now) (world_of (g.F.Files.held c.args.files.now) (g.F.Files.held c.outcome_of.new.files) (g.F.Files.faults c.args.files.now) (g.F.Files.faults c.outcome_of.new.files))
    (g.S.Sink.written c.args.out.now) (g.S.Sink.written c.put_memory.new.out) (g.S.Sink.faults c.args.out.now) (g.S.Sink.faults c.put_memory.new.out))
    c.put_memory.result (returns-in-Err-clause-told g c)

pub returns-in-Err-clause-demo_completes : goal.returns-in-Err-clause-demo_completes
returns-in-Err-clause-demo_completes g c =
    demo_completes (call_of (map string_bytes c.args.words.now) (world_of (g.F.Files.held c.args.files.now) (g.F.Files.held c.outcome_of.new.files) (g.F.Files.faults c.args.files.now) (g.F.Files.faults c.outcome_of.new.files))
    (g.S.Sink.written c.args.out.now) (g.S.Sink.written c.put_memory.new.out) (g.S.Sink.faults c.args.out.now) (g.S.Sink.faults c.put_memory.new.out))
    c.put_memory.result (inr (record { kept = c.in-Err.ensures.kept; memory = c.put_memory.ensures.end }))
