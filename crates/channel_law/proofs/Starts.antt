-- A unit that begins in a packet is one of the starts of that packet.
use Rattle.std.proofs.Common.{◌≡◌, ◌⊎◌, inl, inr, ℕ, zero, suc, ◌+◌, ◌-◌, ◌<◌, ◌≤◌, Bool, true, false, cond, ltb, leb, List, [], ◌++◌, length, take, drop, refl, ap, sym, ◌∙◌, subst, arith, length-drop}
use Rattle.std.proofs.lemmas.List.{drop-drop, take-append-le, take-append-drop}
use Rattle.std.proofs.Math.Seq.{take-append-add}
use Rattle.std.proofs.lemmas.Bool.{cases_lt}
use Rattle.ts_spec.specs.Form.{UnitForm, Span, more, stuffing, whole, bad, IsLawful}
use Rattle.ts_spec.specs.Packet.{PacketFields, pointer, pointer_fits}
use Rattle.ts_spec.specs.Reassembly.{starts_behind, starts_within, unit_starts}
use Rattle.ts_spec.specs.Packetized.{packet_at, unit_at, joined_payloads, edge, IsIn, IsFirstIn, Packetizes}
use Rattle.channel_law.proofs.Member.{Member}
use Rattle.channel_law.proofs.Positions.{body, joined_behind, size, edge-next, drop-inside, unit_long, begin_rises, begins_later, next_at_once}

-- a test of an order that holds
pub leb_true : (a b : ℕ) → a ≤ b → leb a b ≡ true
leb_true a b order = grind arith

-- Spans.

-- the length of a unit is told by all that begins with it
pub span-front : (form : UnitForm) → IsLawful form → (unit behind : List ℕ) → form.span unit ≡ whole (length unit) → form.span (unit ++ behind) ≡ whole (length unit)
span-front form lawful unit behind told = by_told (lawful.told unit behind)
  where
    by_told : (form.span unit ≡ more) ⊎ (form.span (unit ++ behind) ≡ form.span unit) → form.span (unit ++ behind) ≡ whole (length unit)
    by_told (inl open_span) = absurd (cc)
    by_told (inr stays) = stays ∙ told

-- no front of a unit is told to be stuffing
front_no_stuffing : (form : UnitForm) → IsLawful form → (front behind : List ℕ) (n : ℕ) → form.span (front ++ behind) ≡ whole n → form.span front ≡ stuffing → ⊥
front_no_stuffing form lawful front behind n told stuffed = by_told (lawful.told front behind)
  where
    by_told : (form.span front ≡ more) ⊎ (form.span (front ++ behind) ≡ form.span front) → ⊥
    by_told (inl open_span) = cc
    by_told (inr stays) = cc

-- One place of a payload.

-- the starts from a place on, where its span is known
abbrev from_span : UnitForm → ℕ → ℕ → List ℕ → Span → List ℕ
from_span form most place bytes span = starts_behind place bytes (length bytes) span (starts_within form most)

-- a place whose span is no stuffing is a start
is_start : (form : UnitForm) (most place : ℕ) (bytes : List ℕ) (span : Span) → (span ≡ stuffing → ⊥) → Member (from_span form most place bytes span) place
is_start form most place bytes more unlike = inl refl
is_start form most place bytes stuffing unlike = absurd (unlike refl)
is_start form most place bytes (whole n) unlike = inl refl
is_start form most place bytes bad unlike = inl refl

-- after a unit that ends in the packet the next place is looked at
goes_on : (form : UnitForm) (most place n start : ℕ) (bytes : List ℕ) (span : Span) → span ≡ whole n → leb n (length bytes) ≡ true
    → Member (starts_within form most (place + n) (drop n bytes)) start → Member (from_span form most place bytes span) start
goes_on form most place n start bytes span told fits there =
    subst (λ (t : Span). Member (from_span form most place bytes t) start) (sym told)
    (inr (subst (λ (t : Bool). Member (cond t (starts_within form most (place + n) (drop n bytes)) []) start) (sym fits) there))

-- a place with enough bytes is looked at
enough_bytes : (form : UnitForm) (most place start : ℕ) (bytes : List ℕ) → form.start ≤ length bytes
    → Member (from_span form most place bytes (form.span bytes)) start → Member (starts_within form (suc most) place bytes) start
enough_bytes form most place start bytes room there =
    let enough : ltb (length bytes) form.start ≡ false = grind arith in
    subst (λ (t : Bool). Member (cond t [] (from_span form most place bytes (form.span bytes))) start) (sym enough) there

module _ (form : UnitForm) (units : List (List ℕ)) (packets : List PacketFields) (begin : ℕ → ℕ) (lawful : IsLawful form) (packetized : Packetizes form units packets begin) where
  -- unit n begins k bytes into the body of packet m
  abbrev pub BeginsAt : ℕ → ℕ → ℕ → Type 0
  BeginsAt m n k = (m < length packets) × (n < length units) × (edge packets m + k ≡ begin n) × (k ≤ length (body packets m))

  -- A unit against the bytes of its first packet.

  -- it comes from them and those after
  unit_from : (m n k : ℕ) → BeginsAt m n k → take (size units n) (drop k (body packets m) ++ joined_behind packets m) ≡ unit_at units n
  unit_from m n k at =
      ap (take (size units n)) (sym (drop-inside packets m k at.0 at.3) ∙ ap (λ (t : ℕ). drop t (joined_payloads packets)) at.2)
      ∙ packetized.bytes n at.1

  -- it lies in them
  pub whole_in_first : (m n k : ℕ) → BeginsAt m n k → k + size units n ≤ length (body packets m)
      → unit_at units n ++ drop (size units n) (drop k (body packets m)) ≡ drop k (body packets m)
  whole_in_first m n k at inside =
      let fits : size units n ≤ length (drop k (body packets m)) = omega (arith, length-drop k (body packets m)) in
      ap (λ (t : List ℕ). t ++ drop (size units n) (drop k (body packets m)))
      (sym (sym (take-append-le (size units n) (drop k (body packets m)) (joined_behind packets m) fits) ∙ unit_from m n k at))
      ∙ take-append-drop (size units n) (drop k (body packets m))

  -- or they are its front
  pub front_in_first : (m n k : ℕ) → BeginsAt m n k → length (body packets m) ≤ k + size units n
      → drop k (body packets m) ++ take (k + size units n - length (body packets m)) (joined_behind packets m) ≡ unit_at units n
  front_in_first m n k at over =
      let parts : size units n ≡ length (drop k (body packets m)) + (k + size units n - length (body packets m)) = omega (arith, length-drop k (body packets m), at.3) in
      sym (take-append-add (drop k (body packets m)) (joined_behind packets m) (k + size units n - length (body packets m)))
      ∙ ap (λ (t : ℕ). take t (drop k (body packets m) ++ joined_behind packets m)) (sym parts)
      ∙ unit_from m n k at

  -- its length is told where it lies in them
  told_in_first : (m n k : ℕ) → BeginsAt m n k → k + size units n ≤ length (body packets m) → form.span (drop k (body packets m)) ≡ whole (size units n)
  told_in_first m n k at inside =
      ap form.span (sym (whole_in_first m n k at inside))
      ∙ span-front form lawful (unit_at units n) (drop (size units n) (drop k (body packets m))) (packetized.each n at.1).size

  -- they are not told to be stuffing
  no_stuffing : (m n k : ℕ) → BeginsAt m n k → form.span (drop k (body packets m)) ≡ stuffing → ⊥
  no_stuffing m n k at stuffed = by_length (cases_lt (k + size units n) (length (body packets m)))
    where
      by_length : (k + size units n < length (body packets m)) ⊎ (length (body packets m) ≤ k + size units n) → ⊥
      by_length (inl short) =
          let told : form.span (drop k (body packets m)) ≡ whole (size units n) = told_in_first m n k at (omega arith) in
          cc
      by_length (inr long) =
          front_no_stuffing form lawful (drop k (body packets m)) (take (k + size units n - length (body packets m)) (joined_behind packets m)) (size units n)
          (ap form.span (front_in_first m n k at long) ∙ (packetized.each n at.1).size) stuffed

  -- The starts of a packet.

  -- from a unit that begins in the packet the starts lead to each later one that begins there
  chain : (m n kn : ℕ) → BeginsAt m n kn → begin n < edge packets (m + 1)
      → (most j k : ℕ) → j ≤ n → edge packets m + k ≡ begin j → edge packets (m + 1) ≤ begin j + most
      → Member (starts_within form most (1 + k) (drop k (body packets m))) (1 + kn)
  chain m n kn at below zero j k order at_j room =
      absurd (omega (arith, begin_rises form units packets begin lawful packetized j n order (omega (arith, at.1))))
  chain m n kn at below (suc most) j k order at_j room =
      enough_bytes form most (1 + k) (1 + kn) (drop k (body packets m))
      (omega (arith, length-drop k (body packets m), edge-next packets m at.0, enough)) (by_order (chain m n kn at below most) (cases_lt j n))
    where
      known : j < length units
      known = omega (arith, at.1)

      enough : begin j + form.start ≤ edge packets (m + 1)
      enough = packetized.enough m j known (record {
        within = at.0;
        from = omega arith;
        below = omega (arith, begin_rises form units packets begin lawful packetized j n order (omega (arith, at.1)));
      })

      begins : BeginsAt m j k
      begins = (at.0, known, at_j, omega (arith, edge-next packets m at.0, enough))

      by_order : ((i l : ℕ) → i ≤ n → edge packets m + l ≡ begin i → edge packets (m + 1) ≤ begin i + most
          → Member (starts_within form most (1 + l) (drop l (body packets m))) (1 + kn))
          → (j < n) ⊎ (n ≤ j) → Member (from_span form most (1 + k) (drop k (body packets m)) (form.span (drop k (body packets m)))) (1 + kn)
      by_order later (inr reached) =
          let same : n ≡ j = omega arith in
          let place : kn ≡ k = omega (arith, at.2, ap begin same) in
          subst (λ (t : ℕ). Member (from_span form most (1 + k) (drop k (body packets m)) (form.span (drop k (body packets m)))) (1 + t)) (sym place)
          (is_start form most (1 + k) (drop k (body packets m)) (form.span (drop k (body packets m))) (no_stuffing m j k begins))
      by_order later (inl before) =
          let rises : begin (j + 1) ≤ begin n = begin_rises form units packets begin lawful packetized (j + 1) n (omega arith) (omega (arith, at.1)) in
          let apart : begin j < begin (j + 1) = begins_later form units packets begin lawful packetized j (j + 1) (omega arith) (omega arith) in
          let inside : edge packets m < begin j + size units j = omega (arith, unit_long form units packets begin lawful packetized j known, lawful.start_least) in
          let next : begin (j + 1) ≡ begin j + size units j = next_at_once form units packets begin lawful packetized m j known inside (omega arith) in
          let fits : k + size units j ≤ length (body packets m) = omega (arith, edge-next packets m at.0) in
          let fits_from : size units j ≤ length (drop k (body packets m)) = omega (arith, length-drop k (body packets m)) in
          let found : Member (starts_within form most (1 + (k + size units j)) (drop (k + size units j) (body packets m))) (1 + kn) =
          later (j + 1) (k + size units j) (omega arith) (omega arith) (omega arith) in
          let place : 1 + (k + size units j) ≡ 1 + k + size units j = omega arith in
          goes_on form most (1 + k) (size units j) (1 + kn) (drop k (body packets m)) (form.span (drop k (body packets m))) (told_in_first m j k begins fits)
          (leb_true (size units j) (length (drop k (body packets m))) fits_from)
          (subst (λ (t : ℕ). Member (starts_within form most t (drop (size units j) (drop k (body packets m)))) (1 + kn)) place
          (subst (λ (t : List ℕ). Member (starts_within form most (1 + (k + size units j)) t) (1 + kn)) (sym (drop-drop (size units j) k (body packets m))) found))

  -- the starts of a packet in which a unit begins are those from its pointer on
  from_pointer : (m start : ℕ) → (packet_at packets m).starts ≡ true → pointer_fits (packet_at packets m) ≡ true
      → Member (starts_within form (length (packet_at packets m).payload) (1 + pointer (packet_at packets m)) (drop (1 + pointer (packet_at packets m)) (packet_at packets m).payload)) start
      → Member (unit_starts form (packet_at packets m)) start
  from_pointer m start starts fits there = rw starts (rw fits there)

  -- a unit that begins in a packet is one of its starts
  pub starts_in : (m n k : ℕ) → n < length units → IsIn packets m (begin n) → edge packets m + k ≡ begin n → Member (unit_starts form (packet_at packets m)) (1 + k)
  starts_in m n k known here at = by_first (packetized.pointed m here.within starts)
    where
      starts : (packet_at packets m).starts ≡ true
      starts = packetized.starts m n known here

      body_is : body packets m ≡ drop 1 (packet_at packets m).payload
      body_is = ap (λ (t : Bool). cond t (drop 1 (packet_at packets m).payload) (packet_at packets m).payload) starts

      length_is : length (body packets m) ≡ length (packet_at packets m).payload - 1
      length_is = ap length body_is ∙ length-drop 1 (packet_at packets m).payload

      -- the first one that starts in the packet is no later one
      order : (f : ℕ) → IsFirstIn units packets begin m f → f ≤ n
      order f first = by_order (cases_lt n f)
        where
          by_order : (n < f) ⊎ (f ≤ n) → f ≤ n
          by_order (inr earlier) = earlier
          by_order (inl later) =
              absurd (omega (arith, first.first n known here, begins_later form units packets begin lawful packetized n f later (omega (arith, first.unit))))

      by_first : ((f : ℕ) × IsFirstIn units packets begin m f × (edge packets m + pointer (packet_at packets m) ≡ begin f))
          → Member (unit_starts form (packet_at packets m)) (1 + k)
      by_first found =
          let first : IsFirstIn units packets begin m found.0 = found.1 in
          let room : 1 + pointer (packet_at packets m) ≤ length (packet_at packets m).payload = omega (arith, edge-next packets m here.within, first.starts.below, found.2, length_is) in
          let begins : BeginsAt m n k = (here.within, known, at, omega (arith, edge-next packets m here.within, here.below)) in
          from_pointer m (1 + k) starts (leb_true (1 + pointer (packet_at packets m)) (length (packet_at packets m).payload) room)
          (subst (λ (t : List ℕ). Member (starts_within form (length (packet_at packets m).payload) (1 + pointer (packet_at packets m)) t) (1 + k))
          (ap (drop (pointer (packet_at packets m))) body_is ∙ drop-drop (pointer (packet_at packets m)) 1 (packet_at packets m).payload)
          (chain m n k begins here.below (length (packet_at packets m).payload) found.0 (pointer (packet_at packets m)) (order found.0 first) found.2
          (omega (arith, edge-next packets m here.within, found.2, length_is))))
