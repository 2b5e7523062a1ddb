-- A datagram as a record.
use Rattle.std.proofs.Common.{◌≡◌, ℕ, List, [], ◌∷◌, length, refl, ap, ap₂, sym, ◌∙◌, subst, arith, map, Option, Some, None, cond, Bool}
use Rattle.std.specs.Prelude.{All}
use Rattle.std.proofs.lemmas.Bool.{eq-eqb}
use Rattle.std.proofs.lemmas.List.{take_all}
use Rattle.std.proofs.lemmas.List.Elements.{All-head, All-tail}
use Rattle.wire_spec.specs.Datagram.{IsDatagram, front_length}
use Rattle.ip_datagram.proofs.Fronts.{front_length-from_front}
use Rattle.relay_core.specs.Gathering.{record_with, record_of, delivered_records}

-- a datagram is its own front
front_is_all : (datagram : List ℕ) → IsDatagram datagram → front_length datagram ≡ Some (length datagram)
front_is_all datagram is =
    front_length-from_front datagram (length datagram) (record {
      within = omega arith;
      datagram = subst IsDatagram (sym (take_all (length datagram) datagram (omega arith))) is;
    })

pub record_of-datagram : (datagram : List ℕ) → IsDatagram datagram → record_of datagram ≡ Some datagram
record_of-datagram datagram is =
    ap (λ (front : Option ℕ). record_with front datagram) (front_is_all datagram is)
    ∙ ap (λ (same : Bool). cond same (Some datagram) None) (eq-eqb (length datagram) (length datagram) refl)

pub delivered_records-datagrams : (datagrams : List (List ℕ)) → All IsDatagram datagrams → delivered_records datagrams ≡ map (λ (datagram : List ℕ). Some datagram) datagrams
delivered_records-datagrams [] all = refl
delivered_records-datagrams (d ∷ datagrams) all =
    ap₂ (λ (r : Option (List ℕ)) (rs : List (Option (List ℕ))). r ∷ rs) (record_of-datagram d (All-head IsDatagram d datagrams all)) (delivered_records-datagrams datagrams (All-tail IsDatagram d datagrams all))
