-- A unit whose packets are received one after another is accepted.
use Rattle.std.proofs.Common.{◌≡◌, ◌⊎◌, inl, inr, ℕ, ◌+◌, ◌-◌, ◌<◌, ◌≤◌, Bool, true, cond, List, [], ◌∷◌, ◌++◌, length, take, drop, flat_map, refl, ap, sym, ◌∙◌, subst, arith, length-drop}
use Rattle.std.proofs.lemmas.List.{drop-drop}
use Rattle.std.proofs.lemmas.Bool.{cases_lt}
use Rattle.ts_spec.specs.Form.{UnitForm, IsLawful}
use Rattle.ts_spec.specs.Packet.{PacketFields}
use Rattle.ts_spec.specs.Received.{Arrival, packet_of}
use Rattle.ts_spec.specs.Reassembly.{Outcome, candidate, with_payload, given_behind, bytes_from, outcome_of, unit_starts, PlacedUnit, accepted_by, accepted_at, accepted_in}
use Rattle.ts_spec.specs.Packetized.{packet_at, unit_at, edge, IsIn, Packetizes}
use Rattle.channel_law.proofs.Member.{Member, member_front, member_behind, member_flat}
use Rattle.channel_law.proofs.Positions.{body, joined_behind, size, edge-next}
use Rattle.channel_law.proofs.Starts.{BeginsAt, whole_in_first, front_in_first, starts_in}
use Rattle.channel_law.proofs.Candidates.{Fits, fits_part, fits_more, fits_given, given_candidate, Agrees, comes, drop_front}

-- what is accepted of the packets after some is accepted of all
pub accepted_behind : (form : UnitForm) (front behind : List Arrival) (x : PlacedUnit) → Member (accepted_in form behind) x → Member (accepted_in form (front ++ behind)) x
accepted_behind form [] behind x there = there
accepted_behind form (a ∷ front) behind x there =
    member_behind (flat_map (accepted_at form a (front ++ behind)) (unit_starts form (packet_of a))) (accepted_in form (front ++ behind)) x
    (accepted_behind form front behind x there)

-- a candidate whose check holds is accepted
candidate_accepted : (form : UnitForm) (a : Arrival) (start : ℕ) (unit : List ℕ) (told : Outcome) → told ≡ candidate unit → form.check unit ≡ true
    → Member (accepted_by form a start told) (record { place = a.place; start = start; moment = a.moment; unit = unit })
candidate_accepted form a start unit told is checked =
    let it : PlacedUnit = record { place = a.place; start = start; moment = a.moment; unit = unit } in
    subst (λ (t : Outcome). Member (accepted_by form a start t) it) (sym is) (subst (λ (b : Bool). Member (cond b (it ∷ []) []) it) (sym checked) (inl refl))

module _ (form : UnitForm) (units : List (List ℕ)) (packets : List PacketFields) (begin : ℕ → ℕ) (lawful : IsLawful form) (packetized : Packetizes form units packets begin) where
  -- the bytes from its start on give the unit
  unit_fits : (n m k d : ℕ) (behind : List Arrival) → n < length units → IsIn packets m (begin n) → edge packets m + k ≡ begin n → Agrees packets d m behind
      → begin n + size units n ≤ edge packets (m + 1 + d) → Fits (unit_at units n) (bytes_from (1 + k) (packet_at packets m) behind)
  unit_fits n m k d behind known here at agrees enough = by_length (cases_lt (length (body packets m)) (k + size units n))
    where
      begins : BeginsAt form units packets begin lawful packetized m n k
      begins = (here.within, known, at, omega (arith, edge-next packets m here.within, here.below))

      first : drop k (body packets m) ≡ drop (1 + k) (packet_at packets m).payload
      first =
          ap (drop k) (ap (λ (t : Bool). cond t (drop 1 (packet_at packets m).payload) (packet_at packets m).payload) (packetized.starts m n known here))
          ∙ drop-drop k 1 (packet_at packets m).payload

      by_length : (length (body packets m) < k + size units n) ⊎ (k + size units n ≤ length (body packets m)) → Fits (unit_at units n) (bytes_from (1 + k) (packet_at packets m) behind)
      by_length (inr inside) =
          fits_part (drop (1 + k) (packet_at packets m).payload) (unit_at units n) (given_behind (packet_at packets m) behind)
          (drop (size units n) (drop k (body packets m)), whole_in_first form units packets begin lawful packetized m n k begins inside ∙ first)
      by_length (inl over) =
          let parts : drop k (body packets m) ++ take (k + size units n - length (body packets m)) (joined_behind packets m) ≡ unit_at units n =
          front_in_first form units packets begin lawful packetized m n k begins (omega arith) in
          let length_is : length (drop k (body packets m)) ≡ length (body packets m) - k = length-drop k (body packets m) in
          let came : Fits (drop (length (drop k (body packets m))) (unit_at units n)) (given_behind (packet_at packets m) behind) =
          fits_given (packet_at packets m) behind (drop (length (drop k (body packets m))) (unit_at units n))
          (comes form units packets begin lawful packetized n known d m (length (drop k (body packets m))) behind here.within
          (omega (arith, edge-next packets m here.within, begins.3)) (omega (arith, edge-next packets m here.within, here.below)) agrees enough) in
          let rest : take (k + size units n - length (body packets m)) (joined_behind packets m) ≡ drop (length (drop k (body packets m))) (unit_at units n) =
          sym (drop_front (drop k (body packets m)) (take (k + size units n - length (body packets m)) (joined_behind packets m)))
          ∙ ap (drop (length (drop k (body packets m)))) parts in
          subst (λ (t : List ℕ). Fits t (bytes_from (1 + k) (packet_at packets m) behind)) (ap (λ (t : List ℕ). drop k (body packets m) ++ t) (sym rest) ∙ parts)
          (subst (λ (t : List ℕ). Fits (drop k (body packets m) ++ drop (length (drop k (body packets m))) (unit_at units n)) (with_payload t (given_behind (packet_at packets m) behind))) first
          (fits_more (drop k (body packets m)) (drop (length (drop k (body packets m))) (unit_at units n)) (given_behind (packet_at packets m) behind) came))

  -- a unit whose packets are received one after another is accepted
  pub unit_accepted : (n m k d : ℕ) (a : Arrival) (behind : List Arrival) → n < length units → IsIn packets m (begin n) → edge packets m + k ≡ begin n
      → packet_of a ≡ packet_at packets m → Agrees packets d m behind → begin n + size units n ≤ edge packets (m + 1 + d)
      → Member (accepted_in form (a ∷ behind)) (record { place = a.place; start = 1 + k; moment = a.moment; unit = unit_at units n })
  unit_accepted n m k d a behind known here at same agrees enough =
      member_front (flat_map (accepted_at form a behind) (unit_starts form (packet_of a))) (accepted_in form behind) it
      (member_flat (accepted_at form a behind) (unit_starts form (packet_of a)) (1 + k) it
      (subst (λ (q : PacketFields). Member (unit_starts form q) (1 + k)) (sym same) (starts_in form units packets begin lawful packetized m n k known here at))
      (candidate_accepted form a (1 + k) (unit_at units n) (outcome_of form (bytes_from (1 + k) (packet_of a) behind)) is (packetized.each n known).checked))
    where
      it : PlacedUnit
      it = record { place = a.place; start = 1 + k; moment = a.moment; unit = unit_at units n }

      is : outcome_of form (bytes_from (1 + k) (packet_of a) behind) ≡ candidate (unit_at units n)
      is =
          given_candidate form lawful (unit_at units n) (bytes_from (1 + k) (packet_of a) behind) (packetized.each n known).size
          (subst (λ (q : PacketFields). Fits (unit_at units n) (bytes_from (1 + k) q behind)) (sym same) (unit_fits n m k d behind known here at agrees enough))
