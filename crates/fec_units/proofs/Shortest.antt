-- How many datagrams a burst may have: each has 20 bytes or more.
use Rattle.std.proofs.Common.{inl, inr, ℕ, ◌+◌, ◌-◌, ◌*◌, ◌<◌, ◌≤◌, List, [], ◌∷◌, length, drop, sym, subst, ◌∙◌, arith, length-append}
use Rattle.std.proofs.lemmas.List.{get_or-take, get_or-drop}
use Rattle.std.proofs.lemmas.List.Elements.{All-head, All-tail}
use Rattle.wire_spec.specs.Datagram.{IsDatagram}
use Rattle.wire_spec.specs.Lists.{joined}
use Rattle.fec_units.specs.Parts.{part_of}
use Rattle.fec_units.proofs.Parts.{length-part}
use Rattle.fec_sent_law.specs.Frames.{AreSendable, IsSendable}

shortest : (d : List ℕ) → IsDatagram d → 20 ≤ length d
shortest d (inl four) = omega (arith, four.header, four.holds_header, four.size)
shortest d (inr six) = omega (arith, six.size)

all_bytes : (ds : List (List ℕ)) → AreSendable ds → 20 * length ds ≤ length (joined ds)
all_bytes [] all = omega arith
all_bytes (d ∷ ds) all =
    let it : IsSendable d = All-head IsSendable d ds all in
    omega (arith, length-append d (joined ds), shortest d it.is, all_bytes ds (All-tail IsSendable d ds all))

part_sendable : (from end : ℕ) (list : List (List ℕ)) → AreSendable list → from ≤ end → end ≤ length list → AreSendable (part_of from end list)
part_sendable from end list all le within k d less =
    let inside : k < end - from = omega (arith, less, length-part from end list le within) in
    subst IsSendable (sym (get_or-take (end - from) (drop from list) k d inside ∙ get_or-drop from list k d)) (all (from + k) d (omega (arith, inside, within)))

pub part_bytes : (from end : ℕ) (list : List (List ℕ)) → AreSendable list → from ≤ end → end ≤ length list
    → 20 * (end - from) ≤ length (joined (part_of from end list))
part_bytes from end list all le within =
    omega (arith, all_bytes (part_of from end list) (part_sendable from end list all le within), length-part from end list le within)
