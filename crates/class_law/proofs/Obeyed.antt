-- What is so of each packet, one after another, is so of what begins and goes on between two places.
use Rattle.std.proofs.Common.{◌≡◌, ℕ, suc, ◌+◌, ◌-◌, ◌<◌, Bool, true, false, not, cond, Option, None, Some, is_some, List, [], ◌∷◌, ◌++◌, length, drop, nat_lt, refl, ap, sym, subst, ◌∙◌, arith}
use Rattle.std.specs.List.{list_all}
use Rattle.std.proofs.lemmas.Bool.{and_parts}
use Rattle.std.proofs.lemmas.List.{drop-drop, length-append}
use Rattle.gse_law.specs.Classes.{first_one, BeginInOrder}
use Rattle.gse_spec.specs.Packet.{GsePacket, complete_packet, start_packet, middle_packet, end_packet}
use Rattle.gse_spec.specs.Reassembly.{Pdu}
use Rattle.class_law.specs.Yielding.{PacketOrEnd, a_packet, frame_end, begun, frames_ended, begins_pdu, first_id, later_id, is_ordinary_id, ends_no_ordinary, next_is_urgent, not_begun, YieldsToUrgent}
use Rattle.class_law.proofs.Ongoing.{GoOn, goes_on_held}

-- in how many frames an ordinary PDU under way yields, after a frame more
abbrev pub ticked : Option ℕ → Option ℕ
ticked None = None
ticked (Some yields) = Some (yields - 1)

module _ (urgent : Pdu → Bool) where
  -- a PDU begins: the next one; while an ordinary one is under way, an urgent one, where that one yields
  abbrev pub NextBegins : Option ℕ → List Pdu → (Pdu → List Pdu → Type 0) → Type 0
  NextBegins way [] go = ⊥
  NextBegins None (pdu ∷ pdus) go = go pdu pdus
  NextBegins (Some yields) (pdu ∷ pdus) go = (urgent pdu ≡ true) × (0 < yields) × go pdu pdus

  -- a fragment of an ordinary PDU under way stands where no urgent one is next, or it yields no more
  abbrev pub WaitsFor : Option ℕ → List Pdu → ℕ → Type 0
  WaitsFor None pdus id = Unit {0}
  WaitsFor (Some yields) pdus id = nat_lt id 128 ≡ true → 0 < yields → next_is_urgent urgent pdus ≡ false

  -- one packet, and what follows
  abbrev pub Obeys : Option ℕ → List Pdu → GsePacket → (Option ℕ → List Pdu → Type 0) → Type 0
  Obeys way pdus (complete_packet protocol label bytes) go = NextBegins way pdus (λ pdu rest. go way rest)
  Obeys way pdus (start_packet id total protocol label written bytes) go =
      NextBegins way pdus (λ pdu rest. (nat_lt id 128 ≡ not (urgent pdu)) × go (cond (nat_lt id 128) (Some 8) way) rest)
  Obeys way pdus (middle_packet id bytes) go = WaitsFor way pdus id × go way pdus
  Obeys way pdus (end_packet id bytes crc) go = WaitsFor way pdus id × go (cond (nat_lt id 128) None way) pdus

  abbrev pub AllObey : Option ℕ → List Pdu → List PacketOrEnd → Type 0
  AllObey way pdus [] = Unit {0}
  AllObey way pdus (frame_end ∷ items) = AllObey (ticked way) pdus items
  AllObey way pdus (a_packet p ∷ items) = Obeys way pdus p (λ o rest. AllObey o rest items)

  -- a PDU that begins
  begins_next : (way : Option ℕ) (pdus : List Pdu) (go : Pdu → List Pdu → Type 0) → NextBegins way pdus go → (pdu : Pdu) × (rest : List Pdu) × (pdus ≡ pdu ∷ rest) × go pdu rest
  begins_next way [] go is = absurd is
  begins_next None (pdu ∷ pdus) go is = (pdu, pdus, refl, is)
  begins_next (Some yields) (pdu ∷ pdus) go is = (pdu, pdus, refl, is.2)

  yields_next : (yields : ℕ) (pdus : List Pdu) (go : Pdu → List Pdu → Type 0) → NextBegins (Some yields) pdus go → (next_is_urgent urgent pdus ≡ true) × (0 < yields)
  yields_next yields [] go is = absurd is
  yields_next yields (pdu ∷ pdus) go is = (is.0, is.1)

  dropped : (n : ℕ) (pdus rest : List Pdu) (pdu : Pdu) → pdus ≡ pdu ∷ rest → drop (suc n) pdus ≡ drop n rest
  dropped n pdus rest pdu is = ap (drop (suc n)) is

  -- While an ordinary PDU is under way.

  under_way : (yields : ℕ) (pdus : List Pdu) (between rest : List PacketOrEnd) → list_all ends_no_ordinary between ≡ true → AllObey (Some yields) pdus (between ++ rest)
      → AllObey (Some (yields - frames_ended between)) (not_begun pdus between) rest
  under_way yields pdus [] rest none all = subst (λ (n : ℕ). AllObey (Some n) pdus rest) (let e : yields ≡ yields - 0 = omega arith in e) all
  under_way yields pdus (frame_end ∷ between) rest none all =
      subst (λ (n : ℕ). AllObey (Some n) (not_begun pdus between) rest) (let e : yields - 1 - frames_ended between ≡ yields - suc (frames_ended between) = omega arith in e)
      (under_way (yields - 1) pdus between rest none all)
  under_way yields pdus (a_packet (complete_packet protocol label bytes) ∷ between) rest none all =
      let next = begins_next (Some yields) pdus (λ pdu ps. AllObey (Some yields) ps (between ++ rest)) all in
      subst (λ (ps : List Pdu). AllObey (Some (yields - frames_ended between)) ps rest) (sym (dropped (length (begun between)) pdus next.1 next.0 next.2))
      (under_way yields next.1 between rest none next.3)
  under_way yields pdus (a_packet (start_packet id total protocol label written bytes) ∷ between) rest none all =
      let next = begins_next (Some yields) pdus (λ pdu ps. (nat_lt id 128 ≡ not (urgent pdu)) × AllObey (cond (nat_lt id 128) (Some 8) (Some yields)) ps (between ++ rest)) all in
      let of_urgent = yields_next yields pdus (λ pdu ps. (nat_lt id 128 ≡ not (urgent pdu)) × AllObey (cond (nat_lt id 128) (Some 8) (Some yields)) ps (between ++ rest)) all in
      let high : nat_lt id 128 ≡ false = next.3.0 ∙ ap not (sym (ap (next_is_urgent urgent) next.2) ∙ of_urgent.0) in
      subst (λ (ps : List Pdu). AllObey (Some (yields - frames_ended between)) ps rest) (sym (dropped (length (begun between)) pdus next.1 next.0 next.2))
      (under_way yields next.1 between rest none (subst (λ (b : Bool). AllObey (cond b (Some 8) (Some yields)) next.1 (between ++ rest)) high next.3.1))
  under_way yields pdus (a_packet (middle_packet id bytes) ∷ between) rest none all = under_way yields pdus between rest none all.1
  under_way yields pdus (a_packet (end_packet id bytes crc) ∷ between) rest none all =
      let parts = and_parts (not (nat_lt id 128)) (list_all ends_no_ordinary between) none in
      let high : nat_lt id 128 ≡ false = not_true (nat_lt id 128) parts.0 in
      under_way yields pdus between rest parts.1 (subst (λ (b : Bool). AllObey (cond b None (Some yields)) pdus (between ++ rest)) high all.1)
    where
      not_true : (b : Bool) → not b ≡ true → b ≡ false
      not_true true is = absurd (cc)
      not_true false is = refl

  -- From the first place to another.

  some_state : (way : Option ℕ) (pdus : List Pdu) (before rest : List PacketOrEnd) → AllObey way pdus (before ++ rest) → (o : Option ℕ) × AllObey o (not_begun pdus before) rest
  some_state way pdus [] rest all = (way, all)
  some_state way pdus (frame_end ∷ before) rest all = some_state (ticked way) pdus before rest all
  some_state way pdus (a_packet (complete_packet protocol label bytes) ∷ before) rest all =
      let next = begins_next way pdus (λ pdu ps. AllObey way ps (before ++ rest)) all in
      let later = some_state way next.1 before rest next.3 in
      (later.0, subst (λ (ps : List Pdu). AllObey later.0 ps rest) (sym (dropped (length (begun before)) pdus next.1 next.0 next.2)) later.1)
  some_state way pdus (a_packet (start_packet id total protocol label written bytes) ∷ before) rest all =
      let next = begins_next way pdus (λ pdu ps. (nat_lt id 128 ≡ not (urgent pdu)) × AllObey (cond (nat_lt id 128) (Some 8) way) ps (before ++ rest)) all in
      let later = some_state (cond (nat_lt id 128) (Some 8) way) next.1 before rest next.3.1 in
      (later.0, subst (λ (ps : List Pdu). AllObey later.0 ps rest) (sym (dropped (length (begun before)) pdus next.1 next.0 next.2)) later.1)
  some_state way pdus (a_packet (middle_packet id bytes) ∷ before) rest all = some_state way pdus before rest all.1
  some_state way pdus (a_packet (end_packet id bytes crc) ∷ before) rest all = some_state (cond (nat_lt id 128) None way) pdus before rest all.1

  -- a start of an ordinary PDU: it yields in eight frames from here on
  started : (way : Option ℕ) (pdus : List Pdu) (start : GsePacket) (rest : List PacketOrEnd) → is_ordinary_id (first_id start) ≡ true → AllObey way pdus (a_packet start ∷ rest)
      → (next_is_urgent urgent pdus ≡ false) × AllObey (Some 8) (drop 1 pdus) rest
  started way pdus (complete_packet protocol label bytes) rest is all = absurd (cc)
  started way pdus (middle_packet id bytes) rest is all = absurd (cc)
  started way pdus (end_packet id bytes crc) rest is all = absurd (cc)
  started way pdus (start_packet id total protocol label written bytes) rest is all =
      let next = begins_next way pdus (λ pdu ps. (nat_lt id 128 ≡ not (urgent pdu)) × AllObey (cond (nat_lt id 128) (Some 8) way) ps rest) all in (
        ap (next_is_urgent urgent) next.2 ∙ not_not (urgent next.0) (sym next.3.0 ∙ is),
        subst (λ (ps : List Pdu). AllObey (Some 8) (drop 1 ps) rest) (sym next.2) (subst (λ (b : Bool). AllObey (cond b (Some 8) way) next.1 rest) is next.3.1),
      )
    where
      not_not : (b : Bool) → not b ≡ true → b ≡ false
      not_not true is = absurd (cc)
      not_not false is = refl

  -- the class of a first fragment
  class_is : (way : Option ℕ) (pdus : List Pdu) (p : GsePacket) (rest : List PacketOrEnd) → is_some (first_id p) ≡ true → AllObey way pdus (a_packet p ∷ rest)
      → is_ordinary_id (first_id p) ≡ not (next_is_urgent urgent pdus)
  class_is way pdus (complete_packet protocol label bytes) rest is all = absurd (cc)
  class_is way pdus (middle_packet id bytes) rest is all = absurd (cc)
  class_is way pdus (end_packet id bytes crc) rest is all = absurd (cc)
  class_is way pdus (start_packet id total protocol label written bytes) rest is all =
      let next = begins_next way pdus (λ pdu ps. (nat_lt id 128 ≡ not (urgent pdu)) × AllObey (cond (nat_lt id 128) (Some 8) way) ps rest) all in
      next.3.0 ∙ sym (ap (λ (ps : List Pdu). not (next_is_urgent urgent ps)) next.2)

  -- what begins, and what goes on
  of_beginning : (yields : ℕ) (pdus : List Pdu) (p : GsePacket) (rest : List PacketOrEnd) → begins_pdu p ≡ true → AllObey (Some yields) pdus (a_packet p ∷ rest)
      → (next_is_urgent urgent pdus ≡ true) × (0 < yields)
  of_beginning yields pdus (complete_packet protocol label bytes) rest is all = yields_next yields pdus (λ pdu ps. AllObey (Some yields) ps rest) all
  of_beginning yields pdus (start_packet id total protocol label written bytes) rest is all =
      yields_next yields pdus (λ pdu ps. (nat_lt id 128 ≡ not (urgent pdu)) × AllObey (cond (nat_lt id 128) (Some 8) (Some yields)) ps rest) all
  of_beginning yields pdus (middle_packet id bytes) rest is all = absurd (cc)
  of_beginning yields pdus (end_packet id bytes crc) rest is all = absurd (cc)

  of_going_on : (yields : ℕ) (pdus : List Pdu) (p : GsePacket) (rest : List PacketOrEnd) → is_ordinary_id (later_id p) ≡ true → 0 < yields → AllObey (Some yields) pdus (a_packet p ∷ rest)
      → next_is_urgent urgent pdus ≡ false
  of_going_on yields pdus (complete_packet protocol label bytes) rest is some all = absurd (cc)
  of_going_on yields pdus (start_packet id total protocol label written bytes) rest is some all = absurd (cc)
  of_going_on yields pdus (middle_packet id bytes) rest is some all = all.0 is some
  of_going_on yields pdus (end_packet id bytes crc) rest is some all = all.0 is some

  -- The whole.

  drop_twice : (n m : ℕ) (pdus : List Pdu) → drop m (drop 1 (drop n pdus)) ≡ drop (n + suc m) pdus
  drop_twice n m pdus =
      let e : n + 1 + m ≡ n + suc m = omega arith in
      ap (drop m) (drop-drop 1 n pdus) ∙ drop-drop m (n + 1) pdus ∙ ap (λ (k : ℕ). drop k pdus) e

  begun-append : (xs ys : List PacketOrEnd) → length (begun (xs ++ ys)) ≡ length (begun xs) + length (begun ys)
  begun-append [] ys = omega arith
  begun-append (frame_end ∷ xs) ys = begun-append xs ys
  begun-append (a_packet p ∷ xs) ys =
      omega (arith, length-append (first_one p) (begun (xs ++ ys)), length-append (first_one p) (begun xs), begun-append xs ys)

  starts_one : (start : GsePacket) (items : List PacketOrEnd) → is_ordinary_id (first_id start) ≡ true → length (begun (a_packet start ∷ items)) ≡ suc (length (begun items))
  starts_one (complete_packet protocol label bytes) items is = absurd (cc)
  starts_one (start_packet id total protocol label written bytes) items is = refl
  starts_one (middle_packet id bytes) items is = absurd (cc)
  starts_one (end_packet id bytes crc) items is = absurd (cc)

  -- between a start and a packet before its end
  at_packet : (pdus : List Pdu) (items before between after : List PacketOrEnd) (start p : GsePacket) → AllObey None pdus items → items ≡ before ++ a_packet start ∷ (between ++ a_packet p ∷ after)
      → is_ordinary_id (first_id start) ≡ true → list_all ends_no_ordinary between ≡ true
      → AllObey (Some (8 - frames_ended between)) (not_begun pdus (before ++ a_packet start ∷ between)) (a_packet p ∷ after)
  at_packet pdus items before between after start p all parts starts none =
      let at = some_state None pdus before (a_packet start ∷ (between ++ a_packet p ∷ after)) (subst (AllObey None pdus) parts all) in
      let way = started at.0 (not_begun pdus before) start (between ++ a_packet p ∷ after) starts at.1 in
      subst (λ (ps : List Pdu). AllObey (Some (8 - frames_ended between)) ps (a_packet p ∷ after))
      (drop_twice (length (begun before)) (length (begun between)) pdus
      ∙ ap (λ (n : ℕ). drop n pdus)
      (ap (λ (n : ℕ). length (begun before) + n) (sym (starts_one start between starts)) ∙ sym (begun-append before (a_packet start ∷ between))))
      (under_way 8 (drop 1 (not_begun pdus before)) between (a_packet p ∷ after) none way.1)

  pub yields_to_urgent : (pdus : List Pdu) (items : List PacketOrEnd) → BeginInOrder pdus (begun items) → AllObey None pdus items → GoOn None items → YieldsToUrgent urgent pdus items
  yields_to_urgent pdus items order all on = record {
    in_order = order;
    classes = λ before after p parts is.
        let at = some_state None pdus before (a_packet p ∷ after) (subst (AllObey None pdus) parts all) in
        class_is at.0 (not_begun pdus before) p after is at.1;
    goes_on = λ before between after start p parts starts none. goes_on_held items before between after start p on parts starts none;
    begins = λ before between after start p parts starts none is.
        let it = of_beginning (8 - frames_ended between) (not_begun pdus (before ++ a_packet start ∷ between)) p after is
        (at_packet pdus items before between after start p all parts starts none) in
        (it.0, omega (arith, it.1));
    waits = λ before between after start p parts starts none is few.
        of_going_on (8 - frames_ended between) (not_begun pdus (before ++ a_packet start ∷ between)) p after is (omega (arith, few))
        (at_packet pdus items before between after start p all parts starts none);
  }
