-- The packets of one PID in a stream, slot by slot.
use Rattle.std.proofs.Common.{◌≡◌, ℕ, zero, suc, ◌+◌, ◌*◌, ◌/◌, ◌%◌, ◌^◌, ◌<◌, Bool, true, false, cond, ltb, List, [], ◌∷◌, ◌++◌, map, refl, ap, ap₂, ◌∙◌, arith, Option, Some, None}
use Rattle.std.specs.Prelude.{drop, filter, flat_map}
use Rattle.std.specs.List.{range_with_len}
use Rattle.std.specs.Int.{w64, to_be_bytes}
use Rattle.std.proofs.lemmas.List.{map-append}
use Rattle.std.proofs.lemmas.List.Elements.{filter-append}
use Rattle.ts_spec.specs.Packet.{PacketFields, fields_of}
use Rattle.ts_spec.specs.Recording.{RecordingForm, plain, stamped, m2ts, Record, plain_record, stamped_record, m2ts_records, m2ts_stamp, moment_behind, microseconds, records_of}
use Rattle.ts_spec.specs.Received.{is_of, arrival_of, arrivals_from, packet_of}
use Rattle.channel_spec.specs.Carried.{packets_sent}
use Rattle.stream_spec.specs.Parts.{stamp_bytes}
use Rattle.stream_law.specs.Words.{HasMoment}

-- every record has a moment, and the records have these bytes
abbrev pub CarryPackets : List Record → List (List ℕ) → Type 0
CarryPackets [] [] = Unit {0}
CarryPackets [] (piece ∷ pieces) = ⊥
CarryPackets (r ∷ records) [] = ⊥
CarryPackets (r ∷ records) (piece ∷ pieces) = ((moment : ℕ) × (r.moment ≡ Some moment)) × (r.bytes ≡ piece) × CarryPackets records pieces

-- the packets of a PID among these bytes
abbrev pub read_of : ℕ → List (List ℕ) → List PacketFields
read_of pid pieces = map fields_of (filter (is_of pid) pieces)

pub read_from : (pid place : ℕ) (records : List Record) (pieces : List (List ℕ)) → CarryPackets records pieces → map packet_of (arrivals_from pid place records) ≡ read_of pid pieces
read_from pid place [] [] have = refl
read_from pid place [] (piece ∷ pieces) have = absurd have
read_from pid place (r ∷ records) [] have = absurd have
read_from pid place (r ∷ records) (piece ∷ pieces) have =
    ap₂ (λ (m : Option ℕ) (b : List ℕ). map packet_of (arrival_of pid place m b ++ arrivals_from pid (place + 1) records)) have.0.1 have.1
    ∙ by_test (is_of pid piece) refl (read_from pid (place + 1) records pieces have.2)
  where
    by_test : (is : Bool) → is_of pid piece ≡ is → map packet_of (arrivals_from pid (place + 1) records) ≡ read_of pid pieces
        → map packet_of (cond is (record { place = place; moment = have.0.0; bytes = piece } ∷ []) [] ++ arrivals_from pid (place + 1) records)
        ≡ map fields_of (cond is (piece ∷ filter (is_of pid) pieces) (filter (is_of pid) pieces))
    by_test true e later = ap (λ (t : List PacketFields). fields_of piece ∷ t) later
    by_test false e later = later

pub sent_is_read : (pid : ℕ) (records : List Record) (pieces : List (List ℕ)) → CarryPackets records pieces → packets_sent pid records ≡ read_of pid pieces
sent_is_read pid records pieces have = read_from pid 0 records pieces have

-- Stamps.

four_bytes : (n : ℕ) → n < 2 ^ 32 → (n / 16777216 % 256 * 256 + n / 65536 % 256) * 65536 + (n / 256 % 256 * 256 + n % 256) ≡ n
four_bytes n below = omega arith

upper_bytes : (n : ℕ) → n < 2 ^ 64 → (n / 72057594037927936 % 256 * 256 + n / 281474976710656 % 256) * 65536 + (n / 1099511627776 % 256 * 256 + n / 4294967296 % 256) ≡ n / 4294967296
upper_bytes n below = omega arith

lower_bytes : (n : ℕ) → (n / 16777216 % 256 * 256 + n / 65536 % 256) * 65536 + (n / 256 % 256 * 256 + n % 256) ≡ n % 4294967296
lower_bytes n = omega arith

pub microseconds-stamp : (n : ℕ) (packet : List ℕ) → n < 2 ^ 64 → microseconds (to_be_bytes w64 n ++ packet) ≡ n
microseconds-stamp n packet below = whole (upper_bytes n below) (lower_bytes n)
  where
    whole : (n / 72057594037927936 % 256 * 256 + n / 281474976710656 % 256) * 65536 + (n / 1099511627776 % 256 * 256 + n / 4294967296 % 256) ≡ n / 4294967296
        → (n / 16777216 % 256 * 256 + n / 65536 % 256) * 65536 + (n / 256 % 256 * 256 + n % 256) ≡ n % 4294967296
        → microseconds (to_be_bytes w64 n ++ packet) ≡ n
    whole a b = ap₂ (λ (x y : ℕ). x * 2 ^ 32 + y) a b ∙ omega arith

-- each piece is the stamp of a slot that has a moment, and then a packet
abbrev pub AreStamped : RecordingForm → ℕ → List (List ℕ) → List (List ℕ) → Type 0
AreStamped form rate [] [] = Unit {0}
AreStamped form rate [] (packet ∷ packets) = ⊥
AreStamped form rate (piece ∷ pieces) [] = ⊥
AreStamped form rate (piece ∷ pieces) (packet ∷ packets) = ((s : ℕ) × HasMoment form rate s × (piece ≡ stamp_bytes form rate s ++ packet)) × AreStamped form rate pieces packets

plain_have : (rate : ℕ) (pieces packets : List (List ℕ)) → AreStamped plain rate pieces packets → CarryPackets (map plain_record pieces) packets
plain_have rate [] [] are = tt
plain_have rate [] (packet ∷ packets) are = absurd are
plain_have rate (piece ∷ pieces) [] are = absurd are
plain_have rate (piece ∷ pieces) (packet ∷ packets) are = ((0, refl), are.0.2, plain_have rate pieces packets are.1)

stamped_have : (rate : ℕ) (pieces packets : List (List ℕ)) → AreStamped stamped rate pieces packets → CarryPackets (map stamped_record pieces) packets
stamped_have rate [] [] are = tt
stamped_have rate [] (packet ∷ packets) are = absurd are
stamped_have rate (piece ∷ pieces) [] are = absurd are
stamped_have rate (piece ∷ pieces) (packet ∷ packets) are = ((stamp, moment_is), ap (λ (p : List ℕ). drop 8 p) are.0.2, stamped_have rate pieces packets are.1)
  where
    stamp : ℕ
    stamp = are.0.0 * 1000000 / rate

    moment_is : (stamped_record piece).moment ≡ Some stamp
    moment_is =
        let told : microseconds (to_be_bytes w64 stamp ++ packet) ≡ stamp = microseconds-stamp stamp packet (omega (arith, are.0.1)) in
        let early : ltb stamp (2 ^ 62) ≡ true = grind (arith, are.0.1) in
        ap (λ (p : List ℕ). (stamped_record p).moment) are.0.2
        ∙ ap (λ (n : ℕ). cond (ltb n (2 ^ 62)) (Some n) None) told ∙ ap (λ (b : Bool). cond b (Some stamp) None) early

m2ts_have : (rate : ℕ) (before : Option ℕ) (pieces packets : List (List ℕ)) → AreStamped m2ts rate pieces packets → CarryPackets (m2ts_records before pieces) packets
m2ts_have rate before [] [] are = tt
m2ts_have rate before [] (packet ∷ packets) are = absurd are
m2ts_have rate before (piece ∷ pieces) [] are = absurd are
m2ts_have rate before (piece ∷ pieces) (packet ∷ packets) are = (
  (moment_behind before (m2ts_stamp piece), refl),
  ap (λ (p : List ℕ). drop 4 p) are.0.2,
  m2ts_have rate (Some (moment_behind before (m2ts_stamp piece))) pieces packets are.1,
)

pub pieces_have : (form : RecordingForm) (rate : ℕ) (pieces packets : List (List ℕ)) → AreStamped form rate pieces packets → CarryPackets (records_of form pieces) packets
pieces_have plain rate pieces packets are = plain_have rate pieces packets are
pieces_have stamped rate pieces packets are = stamped_have rate pieces packets are
pieces_have m2ts rate pieces packets are = m2ts_have rate None pieces packets are

-- pieces one after another
both_stamped : (form : RecordingForm) (rate : ℕ) (pieces packets more behind : List (List ℕ)) → AreStamped form rate pieces packets → AreStamped form rate more behind
    → AreStamped form rate (pieces ++ more) (packets ++ behind)
both_stamped form rate [] [] more behind are then = then
both_stamped form rate [] (packet ∷ packets) more behind are then = absurd are
both_stamped form rate (piece ∷ pieces) [] more behind are then = absurd are
both_stamped form rate (piece ∷ pieces) (packet ∷ packets) more behind are then = (are.0, both_stamped form rate pieces packets more behind are.1 then)

-- the pieces of some slots, where a slot has this number in the whole stream
pub slots_stamped : (form : RecordingForm) (rate : ℕ) (at : ℕ → ℕ) (packet : ℕ → List ℕ) (a n : ℕ) → ((s : ℕ) → s < a + n → HasMoment form rate (at s))
    → AreStamped form rate (map (λ s. stamp_bytes form rate (at s) ++ packet s) (range_with_len a n)) (map packet (range_with_len a n))
slots_stamped form rate at packet a zero each = tt
slots_stamped form rate at packet a (suc n) each =
    ((at a, each a (omega arith), refl), slots_stamped form rate at packet (a + 1) n (λ s less. each s (omega (arith, less))))

-- those of several parts
pub parts_stamped : (form : RecordingForm) (rate : ℕ) (pieces packets : ℕ → List (List ℕ)) (a n : ℕ) → ((v : ℕ) → v < a + n → AreStamped form rate (pieces v) (packets v))
    → AreStamped form rate (flat_map pieces (range_with_len a n)) (flat_map packets (range_with_len a n))
parts_stamped form rate pieces packets a zero each = tt
parts_stamped form rate pieces packets a (suc n) each =
    both_stamped form rate (pieces a) (packets a) (flat_map pieces (range_with_len (a + 1) n)) (flat_map packets (range_with_len (a + 1) n)) (each a (omega arith))
    (parts_stamped form rate pieces packets (a + 1) n (λ v less. each v (omega (arith, less))))

-- The packets of a PID in several parts.

pub read_both : (pid : ℕ) (pieces more : List (List ℕ)) → read_of pid (pieces ++ more) ≡ read_of pid pieces ++ read_of pid more
read_both pid pieces more = ap (map fields_of) (filter-append (is_of pid) pieces more) ∙ map-append fields_of (filter (is_of pid) pieces) (filter (is_of pid) more)

pub parts_read : (pid : ℕ) (pieces : ℕ → List (List ℕ)) (a n : ℕ) → read_of pid (flat_map pieces (range_with_len a n)) ≡ flat_map (λ v. read_of pid (pieces v)) (range_with_len a n)
parts_read pid pieces a zero = refl
parts_read pid pieces a (suc n) =
    read_both pid (pieces a) (flat_map pieces (range_with_len (a + 1) n))
    ∙ ap (λ (l : List PacketFields). read_of pid (pieces a) ++ l) (parts_read pid pieces (a + 1) n)
