-- The whole receiver, with one frame more: what it counts of the recording, and what its services were given.
use Rattle.std.proofs.Common.{◌≡◌, ℕ, ◌+◌, ◌^◌, ◌<◌, Bool, true, false, List, [], ◌∷◌, ◌++◌, ap, sym, ◌∙◌, subst}
use Rattle.plan_spec.specs.Plan.{PlanFields, isis}
use Rattle.gse_spec.specs.Frame.{is_frame}
use Rattle.gse_spec.specs.Received.{is_foreign}
use Rattle.bb_reception_spec.specs.Numbers.{recording_numbers}
use Rattle.loss_report.specs.declared.counts.StreamCounts.{StreamCounts}
use Rattle.bb_demux.specs.Counts.{stream_counts_of}
use Rattle.bb_demux.specs.Receiving.{BbReceiverState, AreOn, HasReceived}
use Rattle.bb_demux.specs.declared.services.IsiReceiver.{IsiReceiver}
use Rattle.bb_demux.proofs.OneFrame.{refused_off, none_on}
use Rattle.bb_demux.proofs.Counted.{raised_to, refused_more, other_more, own_more}

-- the receiver holds a plan of its own, which is this plan
module _ (plan own : PlanFields) (same : own ≡ plan) (frames : List (List ℕ)) (b : List ℕ) (s : StreamCounts) (are : s ≡ stream_counts_of (recording_numbers plan frames)) (few : s.records < 2 ^ 32) where
  abbrev after : List (List ℕ)
  after = frames ++ b ∷ []

  abbrev raised : ℕ → ℕ → StreamCounts
  raised unreadable other = record { records = s.records + 1; tail_bytes = s.tail_bytes; unreadable = unreadable; without_payload = s.without_payload; other = other }

  abbrev state : Bool → StreamCounts → List IsiReceiver → BbReceiverState
  state is_open stream services = record { plan = own; is_open = is_open; stream = stream; services = services }

  foreign_here : (t : Bool) → is_foreign (isis own) b ≡ t → is_foreign (isis plan) b ≡ t
  foreign_here t is = ap (λ (p : PlanFields). is_foreign (isis p) b) (sym same) ∙ is

  on_here : (left new : List IsiReceiver) → left ≡ new → AreOn own new after → AreOn plan left after
  on_here left new is on = subst (λ (p : PlanFields). AreOn p left after) same (subst (λ (t : List IsiReceiver). AreOn own t after) (sym is) on)

  -- what its services were given before, under its own plan and by the slice that lends them
  pub lent_on : (services lent : List IsiReceiver) → lent ≡ services → AreOn plan services frames → AreOn own lent frames
  lent_on services lent is on =
      subst (λ (p : PlanFields). AreOn p lent frames) (sym same) (subst (λ (t : List IsiReceiver). AreOn plan t frames) (sym is) on)

  -- a refused frame; one of another ISI; one of a service
  pub refused_received : (is_open : Bool) (n : ℕ) (services : List IsiReceiver) → raised_to n s.unreadable → is_frame b ≡ false → AreOn plan services frames
      → HasReceived plan after (state is_open (raised n s.other) services)
  refused_received is_open n services raised refused on = record {
    plan_is = same;
    stream = refused_more plan frames b s are few n raised refused;
    all = none_on plan services frames b on (refused_off plan services frames b on refused);
  }

  pub other_received : (is_open : Bool) (n : ℕ) (left new : List IsiReceiver) → left ≡ new → raised_to n s.other → is_frame b ≡ true → is_foreign (isis own) b ≡ true → AreOn own new after
      → HasReceived plan after (state is_open (raised s.unreadable n) left)
  other_received is_open n left new is raised readable off on = record {
    plan_is = same;
    stream = other_more plan frames b s are few n raised readable (foreign_here true off);
    all = on_here left new is on;
  }

  pub own_received : (is_open : Bool) (left new : List IsiReceiver) → left ≡ new → is_frame b ≡ true → is_foreign (isis own) b ≡ false → AreOn own new after
      → HasReceived plan after (state is_open (raised s.unreadable s.other) left)
  own_received is_open left new is readable known on = record {
    plan_is = same;
    stream = own_more plan frames b s are few readable (foreign_here false known);
    all = on_here left new is on;
  }
