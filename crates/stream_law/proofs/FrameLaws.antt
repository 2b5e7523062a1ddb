-- The laws of frames, for frames of which each is known to be one.
use Rattle.std.proofs.Common.{ℕ, ◌*◌, ◌<◌, ◌≤◌, List, [], ◌∷◌, length}
use Rattle.std.specs.Prelude.{flat_map, All}
use Rattle.std.proofs.lemmas.List.Elements.{All-nil, All-cons}
use Rattle.wire_spec.specs.Bytes.{AreBytes}
use Rattle.wire_spec.specs.Lists.{joined}
use Rattle.ts_spec.specs.Form.{IsUnit}
use Rattle.section_spec.specs.Section.{section_form}
use Rattle.section_spec.specs.Mpe.{IsRows}
use Rattle.fec_sent_law.specs.Frames.{IsSendable, CanSend}
use Rattle.plan_spec.specs.Bytes.{IsMac}
use Rattle.stream_spec.specs.Units.{units_of_frames}
use Rattle.stream_law.proofs.Frames.{AreFramed, AreFrames, framed_both}

pub sendable : (ds : List (List ℕ)) → AreFramed ds → All IsSendable ds
sendable [] are = All-nil IsSendable
sendable (d ∷ ds) are = All-cons IsSendable d ds (record { is = are.0.is; size = are.0.size }) (sendable ds are.1)

pub of_bytes : (ds : List (List ℕ)) → AreFramed ds → All AreBytes ds
of_bytes [] are = All-nil AreBytes
of_bytes (d ∷ ds) are = All-cons AreBytes d ds are.0.bytes (of_bytes ds are.1)

module _ (rows : ℕ) where
  all_framed : (frames : List (List (List ℕ))) → AreFrames rows frames → AreFramed (flat_map (λ (frame : List (List ℕ)). frame) frames)
  all_framed [] are = tt
  all_framed (frame ∷ frames) are = framed_both frame (flat_map (λ (f : List (List ℕ)). f) frames) are.0.each (all_framed frames are.1)

  all_some : (frames : List (List (List ℕ))) → AreFrames rows frames → All (λ (frame : List (List ℕ)). 0 < length frame) frames
  all_some [] are = All-nil (λ (frame : List (List ℕ)). 0 < length frame)
  all_some (frame ∷ frames) are = All-cons (λ (f : List (List ℕ)). 0 < length f) frame frames are.0.some (all_some frames are.1)

  all_fit : (frames : List (List (List ℕ))) → AreFrames rows frames → All (λ (frame : List (List ℕ)). length (joined frame) ≤ 191 * rows) frames
  all_fit [] are = All-nil (λ (frame : List (List ℕ)). length (joined frame) ≤ 191 * rows)
  all_fit (frame ∷ frames) are = All-cons (λ (f : List (List ℕ)). length (joined f) ≤ 191 * rows) frame frames are.0.fits (all_fit frames are.1)

  module _ (columns : ℕ) (unicast : List ℕ) (is_mac : IsMac unicast) (is_rows : IsRows rows) (least : 1 ≤ columns) (most : columns ≤ 64)
      (frames : List (List (List ℕ))) (are : AreFrames rows frames) where
    can_send : CanSend rows columns unicast (flat_map (λ (frame : List (List ℕ)). frame) frames)
    can_send = record {
      rows_are = is_rows;
      columns_least = least;
      columns_most = most;
      unicast_bytes = is_mac.bytes;
      unicast_size = is_mac.size;
      sendable = sendable (flat_map (λ (frame : List (List ℕ)). frame) frames) (all_framed frames are);
      bytes = of_bytes (flat_map (λ (frame : List (List ℕ)). frame) frames) (all_framed frames are);
    }

    -- each unit is a section
    pub frames_units : ((rows columns first : ℕ) (unicast : List ℕ) (frames : List (List (List ℕ)))
        → CanSend rows columns unicast (flat_map (λ (frame : List (List ℕ)). frame) frames) → All (λ (frame : List (List ℕ)). 0 < length frame) frames
        → All (λ (frame : List (List ℕ)). length (joined frame) ≤ 191 * rows) frames
        → All (IsUnit section_form) (units_of_frames rows columns unicast first frames))
        → (first : ℕ) → All (IsUnit section_form) (units_of_frames rows columns unicast first frames)
    frames_units law first = law rows columns first unicast frames can_send (all_some frames are) (all_fit frames are)
