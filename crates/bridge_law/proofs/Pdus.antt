-- Ethernet frames as PDUs: each can be sent, and carries its frame.
use Rattle.std.proofs.Common.{◌≡◌, ℕ, Bool, true, cond, List, [], ◌∷◌, ◌++◌, length, map, flat_map, option_to_list, refl, ap, ap₂, arith, Option, Some, None}
use Rattle.std.proofs.lemmas.Bool.{le-leb}
use Rattle.gse_law.specs.Packed.{AreSendable}
use Rattle.bridge_spec.specs.Frames.{on_isi, frame_of_pdu}
use Rattle.bridge_spec.specs.Sending.{has_room, pdu_with_frame}
use Rattle.bridge_law.specs.Rooms.{HaveRoom}
use Rattle.bridge_law.proofs.Rooms.{bounds}

one_carried : (isi : ℕ) (frame : List ℕ) → has_room (on_isi isi) frame ≡ true → frame_of_pdu (pdu_with_frame frame) ≡ frame ∷ []
one_carried isi frame room =
    ap (λ (b : Bool). option_to_list (cond {A = Option (List ℕ)} b (Some frame) None)) (le-leb 14 (length frame) (bounds 14 65527 (length frame) room).0)

pub pdus_carry : (isi : ℕ) (frames : List (List ℕ)) → HaveRoom (on_isi isi) frames → flat_map frame_of_pdu (map pdu_with_frame frames) ≡ frames
pdus_carry isi [] rooms = refl
pdus_carry isi (frame ∷ frames) rooms = ap₂ (λ (x y : List (List ℕ)). x ++ y) (one_carried isi frame rooms.0) (pdus_carry isi frames rooms.1)

pub pdus_sendable : (isi : ℕ) (frames : List (List ℕ)) → HaveRoom (on_isi isi) frames → AreSendable (map pdu_with_frame frames)
pdus_sendable isi [] rooms = tt
pdus_sendable isi (frame ∷ frames) rooms =
    (((omega arith, (bounds 14 65527 (length frame) rooms.0).1), omega arith, tt), pdus_sendable isi frames rooms.1)
