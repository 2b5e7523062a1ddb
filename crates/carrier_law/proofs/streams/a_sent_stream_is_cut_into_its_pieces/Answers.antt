use Rattle.std.proofs.Common.{◌≡◌, ℕ, Bool, true, false, List, [], refl, ap, sym, subst, Option, Some, None}
use Rattle.std.specs.Prelude.{is_some}
use Rattle.std.specs.Option.{unwrap_or}
use Rattle.wire_spec.specs.Lists.{joined, IsCut}
use Rattle.ts_spec.specs.Recording.{record_size}
use Rattle.plan_spec.specs.Plan.{PlanFields, is_baseband}
use Rattle.plan_spec.specs.Offered.{offered_in}
use Rattle.carrier_law.proofs.Cases.{by_carrier}
use Rattle.carrier_law.proofs.streams.a_sent_stream_is_cut_into_its_pieces.Goals as goal

no_frames : (size : Option ℕ) (other : ℕ) → is_some size ≡ false → unwrap_or size other ≡ other
no_frames None other none = refl
no_frames (Some size) other none = absurd (cc)

pub returns : goal.returns
returns c = record {
  cut = λ plan whole of_bytes gives pieces sent.
      by_carrier (is_baseband plan)
      (λ is.
      let stream = sent.in_frames is in
      subst (λ (n : ℕ). IsCut n (joined pieces) pieces []) (sym (ap (λ (size : Option ℕ). unwrap_or size (record_size plan.recording)) stream.size_is))
      (c.a_baseband_stream_is_cut_into_its_frames.ensures.cut plan whole of_bytes gives pieces stream))
      (λ is.
      subst (λ (n : ℕ). IsCut n (joined pieces) pieces []) (sym (no_frames plan.frame_bytes (record_size plan.recording) is))
      (c.a_stream_is_cut_into_its_records.ensures.cut plan (offered_in plan gives) pieces (sent.in_records is)));
}
