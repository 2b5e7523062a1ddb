-- The receiver and the pieces of a plan, before the first piece.
use Rattle.std.proofs.Common.{◌≡◌, ◌⊎◌, inl, inr, ℕ, ◌≤◌, true, false, List, [], length, refl, ap, sym, subst, arith, Option, None, Some}
use Rattle.std.specs.Prelude.{is_some}
use Rattle.std.specs.Option.{unwrap_or}
use Rattle.std.proofs.lemmas.Bool.{cases_Bool}
use Rattle.ts_spec.specs.Recording.{Record}
use Rattle.plan_spec.specs.Plan.{PlanFields, is_baseband}
use Rattle.plan_spec.specs.Wholes.{is_whole_plan}
use Rattle.bb_stream_law.proofs.PlanChecks.{has_size}
use Rattle.demux_core.specs.Carriers.{plan_of, is_open_in, stream_of, HasReceivedPackets, HasReceivedFrames}
use Rattle.demux_core.specs.Carried.{IsReady, TakesSize}
use Rattle.demux_core.specs.declared.receiver.ByCarrier.{ByCarrier}
use Rattle.demux_core.specs.declared.receiver.ByCarrier.TheVariants.{Packets, Frames}
use Rattle.recording_reception.specs.Reception.{IsGivenOn, IsGiven, IsFormOf, HasContentOf, HasBegun}
use Rattle.recording_reader.specs.Any.{form_in, size_in, content_in, count_in, HasReadIn}
use Rattle.recording_reader.specs.declared.any.RecordingPieces.{RecordingPieces}
use Rattle.recording_reader.proofs.Next.{records_none}

pub plan_of_frames : (receiver : ByCarrier) (plan : PlanFields) (frames : List (List ℕ)) → HasReceivedFrames plan frames receiver → plan_of receiver ≡ plan
plan_of_frames (Packets receiver) plan frames has = absurd has
plan_of_frames (Frames receiver) plan frames has = has.plan_is

-- a receiver of the plan that was given nothing
given_none : (carrier : Option ℕ) (plan : PlanFields) (receiver : ByCarrier) → plan.frame_bytes ≡ carrier
    → (is_baseband plan ≡ false → HasReceivedPackets false plan [] receiver) → (is_baseband plan ≡ true → HasReceivedFrames plan [] receiver)
    → IsGivenOn carrier false plan [] receiver
given_none None plan receiver is packets frames =
    subst (λ (records : List Record). HasReceivedPackets false plan records receiver) (sym (records_none plan.recording)) (packets (ap is_some is))
given_none (Some bytes) plan receiver is packets frames = frames (ap is_some is)

is_fresh : (plan : PlanFields) (receiver : ByCarrier)
    → (is_baseband plan ≡ false → HasReceivedPackets false plan [] receiver) → (is_baseband plan ≡ true → HasReceivedFrames plan [] receiver)
    → IsGiven false plan [] receiver
is_fresh plan receiver packets frames = given_none plan.frame_bytes plan receiver refl packets frames

-- has counted none
counted_none : (plan : PlanFields) (receiver : ByCarrier) → HasReceivedPackets false plan [] receiver ⊎ HasReceivedFrames plan [] receiver → (stream_of receiver).records ≡ 0
counted_none plan (Packets receiver) (inl given) = ap (λ n. n.records) given.stream
counted_none plan (Packets receiver) (inr given) = absurd given
counted_none plan (Frames receiver) (inl given) = absurd given
counted_none plan (Frames receiver) (inr given) = ap (λ n. n.records) given.stream

has_room : (plan : PlanFields) (receiver : ByCarrier)
    → (is_baseband plan ≡ false → HasReceivedPackets false plan [] receiver) → (is_baseband plan ≡ true → HasReceivedFrames plan [] receiver)
    → (stream_of receiver).records ≡ 0
has_room plan receiver packets frames = counted_none plan receiver (elim (cases_Bool (is_baseband plan)) [ inl baseband ↦ inr (frames baseband) | inr other ↦ inl (packets other) ])

-- and takes the pieces of the plan
takes_size : (carrier : Option ℕ) (plan : PlanFields) (receiver : ByCarrier) → plan.frame_bytes ≡ carrier → is_whole_plan plan ≡ true → IsGivenOn carrier false plan [] receiver
    → TakesSize receiver (unwrap_or carrier 188)
takes_size None plan (Packets receiver) is whole given = refl
takes_size None plan (Frames receiver) is whole given = absurd given
takes_size (Some bytes) plan (Packets receiver) is whole given = absurd given
takes_size (Some bytes) plan (Frames receiver) is whole given = omega (arith, (has_size plan bytes whole is).0)

-- so a reception of the plan begins
pub has_begun : {A : Type 0} (plan : PlanFields) (receiver : ByCarrier) (pieces : RecordingPieces A) → is_whole_plan plan ≡ true
    → IsFormOf plan (form_in pieces) (size_in pieces) → HasContentOf plan pieces → HasReadIn pieces [] → count_in pieces ≡ 0
    → (is_baseband plan ≡ false → HasReceivedPackets false plan [] receiver) → (is_baseband plan ≡ true → HasReceivedFrames plan [] receiver)
    → is_open_in receiver ≡ true → plan_of receiver ≡ plan → HasBegun plan receiver pieces
has_begun plan receiver pieces whole form content unread uncounted packets frames opened same =
    let given = is_fresh plan receiver packets frames in
    record {
      form = form;
      unread = unread;
      uncounted = uncounted;
      plan_is = same;
      is_open = opened;
      given = given;
      records = has_room plan receiver packets frames;
      takes = subst (TakesSize receiver) (sym content) (takes_size plan.frame_bytes plan receiver refl whole given);
    }

-- and takes every piece, with an outlet of all services
pub is_ready : {A : Type 0} (plan : PlanFields) (receiver : ByCarrier) (pieces : RecordingPieces A) (services : ℕ) → HasBegun plan receiver pieces
    → length plan.services ≤ services → IsReady receiver services (content_in pieces)
is_ready plan receiver pieces services begun served = (begun.takes, begun.is_open, subst (λ (p : PlanFields). length p.services ≤ services) (sym begun.plan_is) served)
