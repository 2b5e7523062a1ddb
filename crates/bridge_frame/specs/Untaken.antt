-- A bridge that was given nothing has taken no record.
use Rattle.std.proofs.Common.{ℕ, List, [], refl, sym, subst}
use Rattle.std.proofs.lemmas.List.{append-nil}
use Rattle.bridge_spec.specs.Frames.{BridgeCarrier, on_pid, on_isi}
use Rattle.bridge_frame.specs.Bridge.{BridgeState}
use Rattle.bridge_frame.specs.Taking.{HasTaken, HasGiven, TookRecords}

pub took_no_record : (start : BridgeState) (old : List (ℕ × List ℕ) → Type 0) (faults : ℕ) → TookRecords start start old old faults faults []
took_no_record start old faults = by_carrier
  where
    by_carrier : (carrier : BridgeCarrier) → HasTaken carrier start [] → HasGiven carrier start old old faults faults []
    by_carrier (on_pid pid) fresh = record { received = fresh; delivers = λ before stands. subst old (sym (append-nil before)) stands; outlet_faults = refl }
    by_carrier (on_isi isi) fresh = record { received = fresh; delivers = λ before stands. subst old (sym (append-nil before)) stands; outlet_faults = refl }
