-- A slot and the windows: which service owns it, and how the bursts of all services stand after it.
use Rattle.std.proofs.Common.{◌≡◌, ◌⊎◌, inl, inr, ℕ, zero, suc, ◌+◌, ◌-◌, ◌/◌, ◌%◌, ◌<◌, ◌≤◌, Bool, true, false, cond, eqb, ltb, List, [], ◌∷◌, length, set, refl, sym, ap, ◌∙◌, arith, Option, Some, None}
use Rattle.std.specs.Prelude.{slice_index, slice_index_or, drop}
use Rattle.std.specs.Option.{option_or}
use Rattle.std.proofs.lemmas.Bool.{cases_lt}
use Rattle.std.proofs.lemmas.List.{length-set, get_or-set_same, get_or-set_other}
use Rattle.ts_spec.specs.Packet.{PacketFields}
use Rattle.ts_spec.specs.Packetized.{packet_at}
use Rattle.plan_spec.specs.Plan.{SlicedFields, sliced_of}
use Rattle.plan_spec.specs.Signalling.{table_packets}
use Rattle.plan_spec.specs.Valid.{is_plan}
use Rattle.slice_spec.specs.Windows.{owner_of}
use Rattle.stream_spec.specs.Services.{kind_at}
use Rattle.stream_spec.specs.Slots.{of_table, of_service}
use Rattle.stream_spec.specs.Windows.{windows_of, out_before, of_owner}
use Rattle.stream_spec.specs.Parts.{PartFields, service_packets, sizes_in, kept_in}
use Rattle.slice_law.proofs.Checks.{inside, shorter}
use Rattle.slice_law.proofs.PlanOwners.{owner_is, is_owned}
use Rattle.ts_mux.specs.Services.{Bursts, no_bursts, bursts_of, opening, opened_at, opened_by, burst_at}
use Rattle.ts_mux.specs.Slots.{is_early, bursts_before, bursts_where, bursts_there}
use Rattle.ts_mux.proofs.Windowed.{some_slots, known_there}
use Rattle.ts_mux.proofs.Bursting.{stays, opens, closed, is_open, rests, gives, way_is, shape_open}

so_less : (a b : ℕ) → ltb a b ≡ true → a < b
so_less a b e = grind (arith, e)

so_not : (a b : ℕ) → ltb a b ≡ false → b ≤ a
so_not a b e = grind (arith, e)

not_less : (a b : ℕ) → b ≤ a → ltb a b ≡ false
not_less a b le = grind (arith, le)

is_less : (a b : ℕ) → a < b → ltb a b ≡ true
is_less a b less = grind (arith, less)

module _ (part : PartFields) (accepted : is_plan part.plan ≡ true)
    (fits : (k : ℕ) (fields : SlicedFields) → sliced_of (kind_at part.plan k) ≡ Some fields → (c : ℕ) → slice_index (sizes_in part k) c ≤ fields.length) (slot : ℕ) where
  abbrev off : ℕ
  off = slot % part.plan.cycle

  abbrev cycle_no : ℕ
  cycle_no = slot / part.plan.cycle

  abbrev owner : Option (ℕ × ℕ)
  owner = owner_of (windows_of part.plan) off

  abbrev packets : ℕ → List PacketFields
  packets k = slice_index_or (service_packets part) k []

  some_cycle : 0 < part.plan.cycle
  some_cycle = omega (arith, shorter part.plan accepted)

  -- of a sliced service
  module _ (k : ℕ) (fields : SlicedFields) (is : sliced_of (kind_at part.plan k) ≡ Some fields) where
    there : (s : ℕ) → bursts_there part s k ≡ bursts_before part.plan.cycle fields.start (sizes_in part k) (packets k) s
    there s = ap (bursts_where part s k) is

    within : fields.start + fields.length ≤ part.plan.cycle
    within = (inside part.plan accepted k fields is).1

    -- its bursts where the window has opened
    abbrev opened : Bursts
    opened =
        shape_open part.plan.cycle fields.start fields.length some_cycle within (some_slots part.plan accepted k fields is) (sizes_in part k) (fits k fields is) (packets k) cycle_no off

    stays_there : (off < fields.start) ⊎ (fields.start + fields.length ≤ off) → bursts_there part (slot + 1) k ≡ bursts_there part slot k
    stays_there where_it =
        there (slot + 1)
        ∙ stays part.plan.cycle fields.start fields.length some_cycle within (some_slots part.plan accepted k fields is) (sizes_in part k) (fits k fields is) (packets k) slot where_it
        ∙ sym (there slot)

    -- a slot that is not its own is outside of its window
    outside : ((n : ℕ) → owner ≡ Some (k, n) → ⊥) → (off < fields.start) ⊎ (fields.start + fields.length ≤ off)
    outside not_own = by_start (cases_lt off fields.start) (cases_lt off (fields.start + fields.length))
      where
        by_start : (off < fields.start) ⊎ (fields.start ≤ off) → (off < fields.start + fields.length) ⊎ (fields.start + fields.length ≤ off)
            → (off < fields.start) ⊎ (fields.start + fields.length ≤ off)
        by_start (inl before) other = inl before
        by_start (inr from) (inr behind) = inr behind
        by_start (inr from) (inl below) =
            absurd (not_own (off - fields.start) (is_owned part.plan accepted off k (off - fields.start) fields is (omega (arith, from)) (omega (arith, from, below))))

    -- at a place of its window it has opened
    opened_there : (bursts : List Bursts) → bursts_of bursts k ≡ bursts_there part slot k → k < length bursts → (n : ℕ) → fields.start + n ≡ off → bursts_of (opened_at bursts k n) k ≡ opened
    opened_there bursts at known zero place =
        get_or-set_same bursts k (opening (bursts_of bursts k)) no_bursts known ∙ ap opening (at ∙ there slot)
        ∙ opens part.plan.cycle fields.start fields.length some_cycle within (some_slots part.plan accepted k fields is) (sizes_in part k) (fits k fields is) (packets k) slot (omega (arith, place))
    opened_there bursts at known (suc n) place =
        at ∙ there slot
        ∙ is_open part.plan.cycle fields.start fields.length some_cycle within (some_slots part.plan accepted k fields is) (sizes_in part k) (fits k fields is) (packets k) slot (omega (arith, place))

    pub closed_there : (bursts : List Bursts) → bursts_of bursts k ≡ bursts_there part slot k → fields.start + 0 ≡ off → (bursts_of bursts k).under_way ≡ 0
    closed_there bursts at place =
        ap (λ (b : Bursts). b.under_way) (at ∙ there slot)
        ∙ closed part.plan.cycle fields.start fields.length some_cycle within (some_slots part.plan accepted k fields is) (sizes_in part k) (fits k fields is) (packets k) slot (omega (arith, place))

  -- no slot of the INT is in a window
  pub early_stays : is_early part.plan.cycle (table_packets part.plan) slot ≡ true → (k : ℕ) → bursts_there part (slot + 1) k ≡ bursts_there part slot k
  early_stays early k = by_sliced (sliced_of (kind_at part.plan k)) refl
    where
      by_sliced : (o : Option SlicedFields) → sliced_of (kind_at part.plan k) ≡ o → bursts_there part (slot + 1) k ≡ bursts_there part slot k
      by_sliced None e = ap (bursts_where part (slot + 1) k) e ∙ sym (ap (bursts_where part slot k) e)
      by_sliced (Some fields) e =
          stays_there k fields e (inl (omega (arith, so_less off (table_packets part.plan) early, (inside part.plan accepted k fields e).0)))

  -- the bursts of another service than the owner stay
  others_stay : (k : ℕ) → ((n : ℕ) → owner ≡ Some (k, n) → ⊥) → bursts_there part (slot + 1) k ≡ bursts_there part slot k
  others_stay k not_own = by_sliced (sliced_of (kind_at part.plan k)) refl
    where
      by_sliced : (o : Option SlicedFields) → sliced_of (kind_at part.plan k) ≡ o → bursts_there part (slot + 1) k ≡ bursts_there part slot k
      by_sliced None e = ap (bursts_where part (slot + 1) k) e ∙ sym (ap (bursts_where part slot k) e)
      by_sliced (Some fields) e = stays_there k fields e (outside k fields e not_own)

  kept_late : is_early part.plan.cycle (table_packets part.plan) slot ≡ false → kept_in part slot ≡ of_owner (sizes_in part) cycle_no owner
  kept_late late = ap (λ (b : Bool). option_or (cond b (Some (of_table off)) None) (of_owner (sizes_in part) cycle_no owner)) late

  module _ (late : is_early part.plan.cycle (table_packets part.plan) slot ≡ false) (bursts : List Bursts) (count : length bursts ≡ length part.plan.services)
      (at : (k : ℕ) → bursts_of bursts k ≡ bursts_there part slot k) where
    abbrev mid : List Bursts
    mid = opened_by owner bursts

    none_some : (j n : ℕ) → owner ≡ None → owner ≡ Some (j, n) → ⊥
    none_some j n e e2 = cc

    some_same : (j n k m : ℕ) → owner ≡ Some (j, n) → owner ≡ Some (k, m) → j ≡ k
    some_same j n k m e e2 = ap service_in (sym e ∙ e2)
      where
        service_in : Option (ℕ × ℕ) → ℕ
        service_in None = 0
        service_in (Some o) = o.0

    other_kept : (j n k : ℕ) → eqb k j ≡ false → bursts_of (opened_at bursts j n) k ≡ bursts_of bursts k
    other_kept j zero k not = get_or-set_other bursts j k (opening (bursts_of bursts j)) no_bursts (λ same. absurd (grind (arith, not, same)))
    other_kept j (suc n) k not = refl

    -- the slot is kept for no burst
    pub record Rests : Type 0 where
      pub kept : kept_in part slot ≡ None
      pub after : (k : ℕ) → bursts_of mid k ≡ bursts_there part (slot + 1) k

    pub rests_there : burst_at owner mid ≡ None → Rests
    rests_there none = by_owner owner refl none
      where
        by_owner : (o : Option (ℕ × ℕ)) → owner ≡ o → burst_at o (opened_by o bursts) ≡ None → Rests
        by_owner None e none2 = record {
          kept = kept_late late ∙ ap (of_owner (sizes_in part) cycle_no) e;
          after = λ k. ap (λ (o : Option (ℕ × ℕ)). bursts_of (opened_by o bursts) k) e ∙ at k ∙ sym (others_stay k (λ n e2. none_some k n e e2));
        }
        by_owner (Some (j, n)) e none2 = by_way (ltb 0 (bursts_of (opened_at bursts j n) j).under_way) refl none2
          where
            own : (fields : SlicedFields) × (sliced_of (kind_at part.plan j) ≡ Some fields) × (fields.start + n ≡ off) × (n < fields.length)
            own = owner_is part.plan accepted off j n e

            known : j < length bursts
            known = omega (arith, count, known_there part.plan accepted j own.0 own.1)

            open_is : bursts_of (opened_at bursts j n) j ≡ opened j own.0 own.1
            open_is = opened_there j own.0 own.1 bursts (at j) known n own.2

            way : (bursts_of (opened_at bursts j n) j).under_way ≡ slice_index (sizes_in part j) cycle_no - n
            way = ap (λ (b : Bursts). b.under_way) open_is
                ∙ way_is part.plan.cycle (own.0).start (own.0).length some_cycle (within j own.0 own.1) (some_slots part.plan accepted j own.0 own.1) (sizes_in part j) (fits j own.0 own.1) (packets j) slot n own.2

            no_option : (b : Bool) → b ≡ true → cond b (Some j) None ≡ None → ⊥
            no_option b e2 e3 = cc

            by_way : (b : Bool) → ltb 0 (bursts_of (opened_at bursts j n) j).under_way ≡ b → cond b (Some j) None ≡ None → Rests
            by_way true e2 e3 = absurd (no_option true refl e3)
            by_way false e2 e3 =
                let over : slice_index (sizes_in part j) cycle_no ≤ n = omega (arith, way, so_not 0 (bursts_of (opened_at bursts j n) j).under_way e2) in
                record {
                  kept = kept_late late ∙ ap (of_owner (sizes_in part) cycle_no) e
                      ∙ ap (λ (b : Bool). cond b (Some (of_service j (out_before (sizes_in part j) cycle_no + n))) None) (not_less n (slice_index (sizes_in part j) cycle_no) over);
                  after = λ k. ap (λ (o : Option (ℕ × ℕ)). bursts_of (opened_by o bursts) k) e ∙ by_same k (eqb k j) refl over;
                }
              where
                by_same : (k : ℕ) (same : Bool) → eqb k j ≡ same → slice_index (sizes_in part j) cycle_no ≤ n → bursts_of (opened_at bursts j n) k ≡ bursts_there part (slot + 1) k
                by_same k false not over = other_kept j n k not ∙ at k ∙ sym (others_stay k (λ m e4. absurd (grind (arith, not, some_same j n k m e e4))))
                by_same k true same over =
                    let here : j ≡ k = grind (arith, same) in
                    ap (λ (i : ℕ). bursts_of (opened_at bursts j n) i) (sym here) ∙ open_is
                    ∙ sym (rests part.plan.cycle (own.0).start (own.0).length some_cycle (within j own.0 own.1) (some_slots part.plan accepted j own.0 own.1) (sizes_in part j) (fits j own.0 own.1) (packets j) slot n own.2 over)
                    ∙ sym (there j own.0 own.1 (slot + 1)) ∙ ap (bursts_there part (slot + 1)) here

    -- it is kept for a packet of this burst
    pub record Gives (k : ℕ) (packet : PacketFields) (after : List Bursts) : Type 0 where
      pub number : ℕ
      pub kept : kept_in part slot ≡ Some (of_service k number)
      pub packet_is : packet_at (packets k) number ≡ packet
      pub after_is : (i : ℕ) → bursts_of after i ≡ bursts_there part (slot + 1) i

    pub gives_there : (k : ℕ) → burst_at owner mid ≡ Some k → (packet : PacketFields) (rest : List PacketFields) (under_way : ℕ)
        → (bursts_of mid k).packets ≡ packet ∷ rest → (bursts_of mid k).under_way ≡ under_way + 1
        → Gives k packet (set mid k (record { packets = rest; under_way = under_way; sizes = (bursts_of mid k).sizes }))
    gives_there k is packet rest under_way next left = by_owner owner refl is next left
      where
        by_owner : (o : Option (ℕ × ℕ)) → owner ≡ o → burst_at o (opened_by o bursts) ≡ Some k → (bursts_of (opened_by o bursts) k).packets ≡ packet ∷ rest
            → (bursts_of (opened_by o bursts) k).under_way ≡ under_way + 1
            → Gives k packet (set (opened_by o bursts) k (record { packets = rest; under_way = under_way; sizes = (bursts_of (opened_by o bursts) k).sizes }))
        by_owner None e is2 next2 left2 = absurd (cc)
        by_owner (Some (j, n)) e is2 next2 left2 = by_way (ltb 0 (bursts_of (opened_at bursts j n) j).under_way) refl is2
          where
            Goal : Type 0
            Goal = Gives k packet (set (opened_at bursts j n) k (record { packets = rest; under_way = under_way; sizes = (bursts_of (opened_at bursts j n) k).sizes }))

            by_way : (b : Bool) → ltb 0 (bursts_of (opened_at bursts j n) j).under_way ≡ b → cond b (Some j) None ≡ Some k
                → Gives k packet (set (opened_at bursts j n) k (record { packets = rest; under_way = under_way; sizes = (bursts_of (opened_at bursts j n) k).sizes }))
            by_way false e2 e3 = absurd (cc)
            by_way true e2 e3 = of_k (cc)
              where
                of_k : j ≡ k → Gives k packet (set (opened_at bursts j n) k (record { packets = rest; under_way = under_way; sizes = (bursts_of (opened_at bursts j n) k).sizes }))
                of_k same = record {
                  number = out_before (sizes_in part k) cycle_no + n;
                  kept = kept_late late ∙ ap (of_owner (sizes_in part) cycle_no) e_k
                      ∙ ap (λ (b : Bool). cond b (Some (of_service k (out_before (sizes_in part k) cycle_no + n))) None) (is_less n (slice_index (sizes_in part k) cycle_no) below);
                  packet_is = it.0;
                  after_is = λ i. by_same i (eqb i k) refl;
                }
                  where
                    e_k : owner ≡ Some (k, n)
                    e_k = e ∙ ap (λ (i : ℕ). Some (i, n)) same

                    own : (fields : SlicedFields) × (sliced_of (kind_at part.plan k) ≡ Some fields) × (fields.start + n ≡ off) × (n < fields.length)
                    own = owner_is part.plan accepted off k n e_k

                    length-opened : (m : ℕ) → length (opened_at bursts j m) ≡ length bursts
                    length-opened zero = length-set bursts j (opening (bursts_of bursts j))
                    length-opened (suc m) = refl

                    known : k < length bursts
                    known = omega (arith, count, known_there part.plan accepted k own.0 own.1)

                    open_is : bursts_of (opened_at bursts j n) k ≡ opened k own.0 own.1
                    open_is = ap (λ (i : ℕ). bursts_of (opened_at bursts i n) k) same ∙ opened_there k own.0 own.1 bursts (at k) known n own.2

                    way : (bursts_of (opened_at bursts j n) k).under_way ≡ slice_index (sizes_in part k) cycle_no - n
                    way = ap (λ (b : Bursts). b.under_way) open_is
                        ∙ way_is part.plan.cycle (own.0).start (own.0).length some_cycle (within k own.0 own.1) (some_slots part.plan accepted k own.0 own.1) (sizes_in part k) (fits k own.0 own.1) (packets k) slot n own.2

                    below : n < slice_index (sizes_in part k) cycle_no
                    below = omega (arith, way, left2)

                    it : (packet_at (packets k) (out_before (sizes_in part k) cycle_no + n) ≡ packet)
                        × (bursts_before part.plan.cycle (own.0).start (sizes_in part k) (packets k) (slot + 1) ≡ record { packets = rest; under_way = under_way; sizes = drop (cycle_no + 1) (sizes_in part k) })
                    it = gives part.plan.cycle (own.0).start (own.0).length some_cycle (within k own.0 own.1) (some_slots part.plan accepted k own.0 own.1) (sizes_in part k) (fits k own.0 own.1) (packets k) slot n own.2 below
                        packet rest under_way (ap (λ (b : Bursts). b.packets) (sym open_is) ∙ next2) (ap (λ (b : Bursts). b.under_way) (sym open_is) ∙ left2)

                    given : Bursts
                    given = record { packets = rest; under_way = under_way; sizes = (bursts_of (opened_at bursts j n) k).sizes }

                    by_same : (i : ℕ) (one : Bool) → eqb i k ≡ one → bursts_of (set (opened_at bursts j n) k given) i ≡ bursts_there part (slot + 1) i
                    by_same i false not =
                        get_or-set_other (opened_at bursts j n) k i given no_bursts (λ there_same. absurd (grind (arith, not, there_same)))
                        ∙ other_kept j n i (ap (eqb i) same ∙ not) ∙ at i ∙ sym (others_stay i (λ m e4. absurd (grind (arith, not, some_same k n i m e_k e4))))
                    by_same i true one =
                        let here : k ≡ i = grind (arith, one) in
                        ap (bursts_of (set (opened_at bursts j n) k given)) (sym here)
                        ∙ get_or-set_same (opened_at bursts j n) k given no_bursts (omega (arith, known, length-opened n))
                        ∙ ap (λ (s : List ℕ). let b : Bursts = record { packets = rest; under_way = under_way; sizes = s } in b) (ap (λ (b : Bursts). b.sizes) open_is)
                        ∙ sym (there k own.0 own.1 (slot + 1) ∙ it.1) ∙ ap (bursts_there part (slot + 1)) here
