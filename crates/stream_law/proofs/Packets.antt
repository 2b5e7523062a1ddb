-- The packets of a packetization are ones that can be written, of one PID.
use Rattle.std.proofs.Common.{◌≡◌, ℕ, zero, suc, ◌+◌, ◌-◌, ◌%◌, ◌<◌, ◌≤◌, Bool, true, false, cond, ◌&&◌, ◌||◌, leb, eqb, List, [], ◌∷◌, ◌++◌, length, take, drop, replicate, refl, ◌∙◌, arith, length-take}
use Rattle.std.proofs.lemmas.List.{length-replicate, length-append}
use Rattle.ts_spec.specs.Form.{UnitForm}
use Rattle.ts_spec.specs.Packet.{PacketFields}
use Rattle.ts_spec.specs.Packetized.{packet_at}
use Rattle.unit_stream.proofs.Written.{length-numbered}
use Rattle.unit_stream.specs.Packing.{stuffed, behind_unit, filled, Piece, may_begin, begin_piece, middle_piece, pieces, byte_count, numbered, packetized}

-- a packet of this PID that can be written
pub record IsOn (pid : ℕ) (packet : PacketFields) : Type 0 where
  pub pid_is : packet.pid ≡ pid
  pub counter : packet.counter ≤ 15
  pub broken : packet.broken ≡ false
  pub size : length packet.payload ≡ 184

true_leb : (a b : ℕ) → leb a b ≡ true → a ≤ b
true_leb a b e = grind (arith, e)

false_leb : (a b : ℕ) → leb a b ≡ false → b < a
false_leb a b e = grind (arith, e)

zero_eqb : (n : ℕ) → eqb n 0 ≡ true → n ≡ 0
zero_eqb n e = grind (arith, e)

-- what a packet has room for is filled
filled_size : (start : ℕ) (packing : Bool) (room : ℕ) (units : List (List ℕ)) → length (filled start packing room units).bytes ≡ room
filled_size start packing room [] = length-replicate {A = ℕ} room 0xFF
filled_size start packing room (unit ∷ units) =
    by_tests (leb (length unit) room) refl (packing && leb start (room - length unit)) (filled_size start packing (room - length unit) units)
  where
    by_tests : (fits : Bool) → leb (length unit) room ≡ fits → (follows : Bool) → length (filled start packing (room - length unit) units).bytes ≡ room - length unit
        → length (cond fits (behind_unit unit (cond follows (filled start packing (room - length unit) units) (stuffed (room - length unit) units)))
        (record { bytes = take room unit; rest = drop room unit; units = units })).bytes ≡ room
    by_tests true e true later =
        omega (arith, length-append unit (filled start packing (room - length unit) units).bytes, later, true_leb (length unit) room e)
    by_tests true e false later =
        omega (arith, length-append unit (replicate {A = ℕ} (room - length unit) 0xFF), length-replicate {A = ℕ} (room - length unit) 0xFF, true_leb (length unit) room e)
    by_tests false e follows later = omega (arith, length-take room unit, false_leb (length unit) room e)

abbrev piece_at : List Piece → ℕ → Piece → Piece
piece_at [] n piece = piece
piece_at (first ∷ behind) zero piece = first
piece_at (first ∷ behind) (suc n) piece = piece_at behind n piece

abbrev AreFull : List Piece → Type 0
AreFull [] = Unit {0}
AreFull (piece ∷ behind) = (length piece.payload ≡ 184) × AreFull behind

full_pieces : (most start : ℕ) (packing : Bool) (rest : List ℕ) (units : List (List ℕ)) → AreFull (pieces most start packing rest units)
full_pieces zero start packing rest units = tt
full_pieces (suc most) start packing rest units =
    by_begin (may_begin start packing rest units) refl (eqb (length rest) 0)
    (full_pieces most start packing (filled start packing (183 - length rest) units).rest (filled start packing (183 - length rest) units).units)
    (full_pieces most start packing (drop 184 rest) units)
  where
    fits : (units2 : List (List ℕ)) → may_begin start packing rest units2 ≡ true → length rest ≤ 183
    fits [] e = absurd (cc)
    fits (unit ∷ units2) e = by_tests (eqb (length rest) 0) refl packing (leb (length rest + start) 183) refl e
      where
        by_tests : (none : Bool) → eqb (length rest) 0 ≡ none → (on room : Bool) → leb (length rest + start) 183 ≡ room → (none || (on && room)) ≡ true → length rest ≤ 183
        by_tests true e1 on room e2 e3 = omega (arith, zero_eqb (length rest) e1)
        by_tests false e1 true true e2 e3 = omega (arith, true_leb (length rest + start) 183 e2)
        by_tests false e1 true false e2 e3 = absurd (cc)
        by_tests false e1 false room e2 e3 = absurd (cc)

    begin_full : length rest ≤ 183 → length (length rest ∷ (rest ++ (filled start packing (183 - length rest) units).bytes)) ≡ 184
    begin_full le =
        sizes (length (rest ++ (filled start packing (183 - length rest) units).bytes)) (length (filled start packing (183 - length rest) units).bytes)
        (length-append rest (filled start packing (183 - length rest) units).bytes) (filled_size start packing (183 - length rest) units)
      where
        sizes : (a b : ℕ) → a ≡ length rest + b → b ≡ 183 - length rest → suc a ≡ 184
        sizes a b e e2 = omega (arith, e, e2, le)

    middle_full : length (take 184 rest ++ replicate (184 - length rest) 0xFF) ≡ 184
    middle_full =
        omega (arith, length-append (take 184 rest) (replicate {A = ℕ} (184 - length rest) 0xFF), length-take 184 rest, length-replicate {A = ℕ} (184 - length rest) 0xFF)

    by_begin : (begins : Bool) → may_begin start packing rest units ≡ begins → (none : Bool)
        → AreFull (pieces most start packing (filled start packing (183 - length rest) units).rest (filled start packing (183 - length rest) units).units)
        → AreFull (pieces most start packing (drop 184 rest) units)
        → AreFull (cond begins (begin_piece rest (filled start packing (183 - length rest) units) (pieces most start packing))
        (cond none [] (middle_piece rest ∷ pieces most start packing (drop 184 rest) units)))
    by_begin true e none later later2 = (begin_full (fits units e), later)
    by_begin false e true later later2 = tt
    by_begin false e false later later2 = (middle_full, later2)

numbered_on : (pid counter : ℕ) (ps : List Piece) → counter ≤ 15 → AreFull ps → (n : ℕ) → n < length (numbered pid counter ps) → IsOn pid (packet_at (numbered pid counter ps) n)
numbered_on pid counter [] le full n less = absurd (omega arith)
numbered_on pid counter (piece ∷ behind) le full zero less = record { pid_is = refl; counter = le; broken = refl; size = full.0 }
numbered_on pid counter (piece ∷ behind) le full (suc n) less = numbered_on pid ((counter + 1) % 16) behind (omega arith) full.1 n (omega arith)

pub packetized_on : (form : UnitForm) (packing : Bool) (pid counter : ℕ) (units : List (List ℕ)) → counter ≤ 15 → (n : ℕ) → n < length (packetized form packing pid counter units)
    → IsOn pid (packet_at (packetized form packing pid counter units) n)
packetized_on form packing pid counter units le n less =
    numbered_on pid counter (pieces (byte_count units) form.start packing [] units) le (full_pieces (byte_count units) form.start packing [] units) n less

-- Their number, which the first counter does not change.

pub length-packetized : (form : UnitForm) (packing : Bool) (pid counter : ℕ) (units : List (List ℕ))
    → length (packetized form packing pid counter units) ≡ length (pieces (byte_count units) form.start packing [] units)
length-packetized form packing pid counter units = length-numbered pid counter (pieces (byte_count units) form.start packing [] units)

-- Their counters.

-- the counters go on after so many packets of the PID
pub record GoOn (before : ℕ) (packets : List PacketFields) : Type 0 where
  pub counter : (i : ℕ) → i < length packets → (packet_at packets i).counter ≡ (before + i) % 16
  pub broken : (i : ℕ) → i < length packets → (packet_at packets i).broken ≡ false

pub none_go_on : (before : ℕ) → GoOn before []
none_go_on before = record { counter = λ i less. absurd (omega (arith, less)); broken = λ i less. absurd (omega (arith, less)) }

counter_at : (pid counter : ℕ) (ps : List Piece) → counter ≤ 15 → (i : ℕ) → i < length (numbered pid counter ps) → (packet_at (numbered pid counter ps) i).counter ≡ (counter + i) % 16
counter_at pid counter [] le i less = absurd (omega arith)
counter_at pid counter (piece ∷ behind) le zero less = omega (arith, le)
counter_at pid counter (piece ∷ behind) le (suc i) less =
    counter_at pid ((counter + 1) % 16) behind (omega arith) i (omega arith) ∙ goes_on counter i
  where
    goes_on : (n j : ℕ) → ((n + 1) % 16 + j) % 16 ≡ (n + suc j) % 16
    goes_on n j = omega arith

pub packetized_go_on : (form : UnitForm) (packing : Bool) (pid before : ℕ) (units : List (List ℕ)) → GoOn before (packetized form packing pid (before % 16) units)
packetized_go_on form packing pid before units = record {
  counter = λ i less. counter_at pid (before % 16) (pieces (byte_count units) form.start packing [] units) (omega arith) i less ∙ after before i;
  broken = λ i less. (packetized_on form packing pid (before % 16) units (omega arith) i less).broken;
}
  where
    after : (n i : ℕ) → (n % 16 + i) % 16 ≡ (n + i) % 16
    after n i = omega arith
