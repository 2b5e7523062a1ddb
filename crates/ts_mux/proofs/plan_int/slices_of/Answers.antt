use Rattle.std.proofs.Common.{ℕ, ap, ◌∙◌, Option}
use Rattle.plan_spec.specs.Plan.{sliced_of}
use Rattle.plan.specs.Parts.{kind_seen}
use Rattle.plan.specs.declared.service.Kind.{Kind}
use Rattle.plan.specs.declared.service.Kind.TheVariants.{Fec}
use Rattle.ts_mux.proofs.plan_int.slices_of.Goals as goal

pub duration_of-duration-requires-clause-short : goal.duration_of-duration-requires-clause-short
duration_of-duration-requires-clause-short c =
    c.requires.short (record { rows = c.in-Fec.rows; parity = c.in-Fec.parity; start = (c.in-Some.window).0; length = (c.in-Some.window).1 })
    (ap (λ (kind : Kind). sliced_of (kind_seen kind)) (c.in-Fec.is ∙ ap (λ (w : Option (ℕ × ℕ)). Fec c.in-Fec.pid c.in-Fec.rows c.in-Fec.parity w) c.in-Some.is))
