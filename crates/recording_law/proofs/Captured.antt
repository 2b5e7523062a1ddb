-- The capture of relayed datagrams: what it tells, and what its records give.
use Rattle.std.proofs.Common.{◌≡◌, inl, inr, ℕ, ◌%◌, ◌<◌, ◌≤◌, true, List, [], ◌∷◌, ◌++◌, length, map, flat_map, refl, ap, ap₂, ◌∙◌, arith, Option, Some}
use Rattle.std.specs.Prelude.{All}
use Rattle.std.specs.List.{list_all}
use Rattle.std.specs.Int.{w32, to_le_bytes, byte_at}
use Rattle.std.proofs.Common.{nat_lt}
use Rattle.std.proofs.lemmas.Bool.{and_parts, ltb-true}
use Rattle.std.proofs.lemmas.List.Elements.{All-nil, All-cons, All-head, All-tail, All-append}
use Rattle.wire_spec.specs.Bytes.{AreBytes}
use Rattle.wire_spec.specs.Datagram.{IsDatagram}
use Rattle.crc_unit.proofs.Window.{reads_fit}
use Rattle.pcap_file.specs.Capture.{capture_head, record_head, capture_record, capture_text}
use Rattle.pcap_file.specs.Captured.{captured_datagram}
use Rattle.pcap_file.specs.Reading.{link_at, longest_record}
use Rattle.pcap_file.specs.declared.captured.LinkType.{LinkType}
use Rattle.pcap_file.specs.declared.captured.LinkType.TheVariants.{Raw}
use Rattle.plan_spec.specs.Offered.{Records}
use Rattle.stream_law.specs.Captures.{datagram_in, given_by}
use Rattle.recording_spec.specs.Relayed.{as_records}

-- a datagram is no longer than a record of a capture
pub short : (datagram : List ℕ) → AreBytes datagram → IsDatagram datagram → length datagram ≤ longest_record
short datagram bytes (inl four) = omega (arith, four.size, reads_fit datagram bytes 2, reads_fit datagram bytes 3)
short datagram bytes (inr six) = omega (arith, six.size, reads_fit datagram bytes 4, reads_fit datagram bytes 5)

pub all_short : (datagrams : List (List ℕ)) → All AreBytes datagrams → All IsDatagram datagrams → All (λ datagram. length datagram ≤ longest_record) datagrams
all_short datagrams bytes are = λ i d within. short _ (bytes i d within) (are i d within)

-- its records give the datagrams
module _ (link : (datagrams : List (List ℕ)) → link_at (capture_text datagrams) ≡ Some Raw)
    (own : (datagram : List ℕ) → IsDatagram datagram → captured_datagram Raw datagram ≡ Some datagram) where
  raw : (datagrams : List (List ℕ)) → All IsDatagram datagrams → map (captured_datagram Raw) datagrams ≡ as_records datagrams
  raw [] are = refl
  raw (datagram ∷ datagrams) are =
      ap₂ (λ (x : Option (List ℕ)) (xs : Records). x ∷ xs) (own datagram (All-head IsDatagram datagram datagrams are)) (raw datagrams (All-tail IsDatagram datagram datagrams are))

  pub gives : (datagrams : List (List ℕ)) → All IsDatagram datagrams → given_by (capture_text datagrams) datagrams ≡ as_records datagrams
  gives datagrams are = ap (λ (o : Option LinkType). map (datagram_in o) datagrams) (link datagrams) ∙ raw datagrams are

-- its bytes are bytes
tested : (bytes : List ℕ) → list_all (λ byte. nat_lt byte 256) bytes ≡ true → AreBytes bytes
tested [] all = All-nil (λ byte. byte < 256)
tested (byte ∷ bytes) all =
    let parts = and_parts (nat_lt byte 256) (list_all (λ b. nat_lt b 256) bytes) all in
    All-cons (λ b. b < 256) byte bytes (ltb-true byte 256 parts.0) (tested bytes parts.1)

head_bytes : AreBytes capture_head
unfolding capture_head
head_bytes = tested capture_head refl

four_bytes : (n : ℕ) → AreBytes (to_le_bytes w32 n)
four_bytes n =
    All-cons (λ x. x < 256) (n % 256) (byte_at 1 n ∷ byte_at 2 n ∷ byte_at 3 n ∷ []) (omega arith)
    (All-cons (λ x. x < 256) (byte_at 1 n) (byte_at 2 n ∷ byte_at 3 n ∷ []) (omega arith)
    (All-cons (λ x. x < 256) (byte_at 2 n) (byte_at 3 n ∷ []) (omega arith)
    (All-cons (λ x. x < 256) (byte_at 3 n) [] (omega arith) (All-nil (λ x. x < 256)))))

record_bytes : (n : ℕ) → AreBytes (record_head n)
unfolding record_head
record_bytes n =
    All-append (λ x. x < 256) (0 ∷ 0 ∷ 0 ∷ 0 ∷ 0 ∷ 0 ∷ 0 ∷ 0 ∷ []) (to_le_bytes w32 n ++ to_le_bytes w32 n)
    (tested (0 ∷ 0 ∷ 0 ∷ 0 ∷ 0 ∷ 0 ∷ 0 ∷ 0 ∷ []) refl) (All-append (λ x. x < 256) (to_le_bytes w32 n) (to_le_bytes w32 n) (four_bytes n) (four_bytes n))

records_bytes : (datagrams : List (List ℕ)) → All AreBytes datagrams → AreBytes (flat_map capture_record datagrams)
records_bytes [] all = All-nil (λ x. x < 256)
records_bytes (datagram ∷ datagrams) all =
    All-append (λ x. x < 256) (capture_record datagram) (flat_map capture_record datagrams)
    (All-append (λ x. x < 256) (record_head (length datagram)) datagram (record_bytes (length datagram)) (All-head AreBytes datagram datagrams all))
    (records_bytes datagrams (All-tail AreBytes datagram datagrams all))

pub text_bytes : (datagrams : List (List ℕ)) → All AreBytes datagrams → AreBytes (capture_text datagrams)
text_bytes datagrams all = All-append (λ x. x < 256) capture_head (flat_map capture_record datagrams) head_bytes (records_bytes datagrams all)
