use Rattle.std.proofs.Common.{◌≡◌, ℕ, ap, ◌∙◌, Option, Some, None}
use Rattle.plan.specs.declared.service.Kind.{Kind}
use Rattle.plan.specs.declared.service.Kind.TheVariants.{Fec}
use Rattle.ts_mux.proofs.Framing.{frames_made, bursts_made, burst_count}
use Rattle.ts_mux.proofs.service_units.units_of_service.Goals as goal

-- with its window, or without one
kind_is : (kind : Kind) (pid rows parity : ℕ) (window found : Option (ℕ × ℕ)) → kind ≡ Fec pid rows parity window → window ≡ found → kind ≡ Fec pid rows parity found
kind_is kind pid rows parity window found is same = is ∙ ap (λ (w : Option (ℕ × ℕ)). Fec pid rows parity w) same

pub returns-in_ok-ends-in-Some-clause-made : goal.returns-in_ok-ends-in-Some-clause-made
returns-in_ok-ends-in-Some-clause-made c =
    bursts_made c.args.datagrams.now c.args.service.now.kind c.in-Fec.pid c.in-Fec.rows c.in-Fec.parity c.in-Some.window
    (kind_is c.args.service.now.kind c.in-Fec.pid c.in-Fec.rows c.in-Fec.parity c.in-Fec.window (Some c.in-Some.window) c.in-Fec.is c.in-Some.is) c.requires.on_pid
    c.in_ok-ends-in-Some.ends.items c.in_ok-ends-in-Some.ensures.ends

pub returns-in_ok-ends-in-Some-clause-frames : goal.returns-in_ok-ends-in-Some-clause-frames
returns-in_ok-ends-in-Some-clause-frames c =
    burst_count c.args.datagrams.now c.args.service.now.kind c.in-Fec.pid c.in-Fec.rows c.in-Fec.parity c.in-Some.window
    (kind_is c.args.service.now.kind c.in-Fec.pid c.in-Fec.rows c.in-Fec.parity c.in-Fec.window (Some c.in-Some.window) c.in-Fec.is c.in-Some.is) c.requires.on_pid
    c.in_ok-ends-in-Some.ends.items c.in_ok-ends-in-Some.ensures.ends

pub returns-in_ok-units-in-None-clause-made : goal.returns-in_ok-units-in-None-clause-made
returns-in_ok-units-in-None-clause-made c =
    frames_made c.args.first c.args.datagrams.now c.args.service.now.kind c.in-Fec.pid c.in-Fec.rows c.in-Fec.parity
    (kind_is c.args.service.now.kind c.in-Fec.pid c.in-Fec.rows c.in-Fec.parity c.in-Fec.window None c.in-Fec.is c.in-None.is) c.requires.on_pid
    c.in_ok-units-in-None.units c.in_ok-units-in-None.ensures.ends
