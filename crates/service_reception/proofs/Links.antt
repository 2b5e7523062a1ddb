-- Received packets, duplicates and gaps, with one packet more.
use Rattle.std.proofs.Common.{◌≡◌, ℕ, suc, ◌+◌, ◌-◌, ◌^◌, ◌<◌, ◌≤◌, Bool, true, false, cond, List, [], ◌∷◌, ◌++◌, length, refl, ap, sym, ◌∙◌, arith, length-append, Option, None, Some, if◌then◌else◌}
use Rattle.std.proofs.lemmas.List.{append-nil}
use Rattle.ts_spec.specs.Form.{UnitForm}
use Rattle.ts_spec.specs.Packet.{PacketFields, fields_of, continues}
use Rattle.ts_spec.specs.Recording.{Record}
use Rattle.ts_spec.specs.Received.{Arrival, packet_of, is_of, arrivals, repeats, received_after, received_packets}
use Rattle.ts_spec.specs.Events.{events_of}
use Rattle.reassembly_law.specs.Records.{last_bytes}
use Rattle.ts_packet.specs.declared.continuity.Link.{Link}
use Rattle.ts_packet.specs.declared.continuity.Link.TheVariants.{First, Next, Repeat, Gap}
use Rattle.ts_packet.specs.Links.{link_of}
use Rattle.reception_spec.specs.Numbers.{PidNumbers, pid_numbers, gaps_behind, gaps_in}
use Rattle.service_reception.specs.Counting.{counted_link, with_events}
use Rattle.service_reception.specs.Reception.{packet_record}
use Rattle.service_reception.proofs.Few.{few_received, few_arrivals}
use Rattle.service_reception.proofs.Records.{packet_at, received_more, is_received, one_arrived}

-- the gaps of some packets, with one more
gaps_more : (a : Arrival) (xs : List Arrival) (next : Arrival) (before : List ℕ) → last_bytes (Some a.bytes) xs ≡ Some before
    → gaps_behind (packet_of a) (xs ++ next ∷ []) ≡ gaps_behind (packet_of a) xs + (if continues (fields_of before) (packet_of next) then 0 else 1)
gaps_more a [] next before last =
    let same : a.bytes ≡ before = cc in
    ap (λ (b : List ℕ). (if continues (fields_of b) (packet_of next) then 0 else 1) + 0) same ∙ omega arith
gaps_more a (x ∷ xs) next before last =
    ap (λ (t : ℕ). (if continues (packet_of a) (packet_of x) then 0 else 1) + t) (gaps_more x xs next before last) ∙ omega arith

gaps_with : (packets : List Arrival) (next : Arrival) (before : List ℕ) → last_bytes None packets ≡ Some before
    → gaps_in (packets ++ next ∷ []) ≡ gaps_in packets + (if continues (fields_of before) (packet_of next) then 0 else 1)
gaps_with [] next before last = cc
gaps_with (a ∷ xs) next before last = gaps_more a xs next before last

-- nothing was received
none_before : (packets : List Arrival) → last_bytes None packets ≡ None → packets ≡ []
none_before [] last = refl
none_before (a ∷ xs) last = absurd (some_last a.bytes xs last)
  where
    some_last : (bytes : List ℕ) (ys : List Arrival) → last_bytes (Some bytes) ys ≡ None → ⊥
    some_last bytes [] e = cc
    some_last bytes (y ∷ ys) e = some_last y.bytes ys e

few_gaps_behind : (before : PacketFields) (packets : List Arrival) → gaps_behind before packets ≤ length packets
few_gaps_behind before [] = omega arith
few_gaps_behind before (a ∷ xs) = by_test (continues before (packet_of a)) (few_gaps_behind (packet_of a) xs)
  where
    by_test : (b : Bool) → gaps_behind (packet_of a) xs ≤ length xs → cond b 0 1 + gaps_behind (packet_of a) xs ≤ suc (length xs)
    by_test true later = omega (arith, later)
    by_test false later = omega (arith, later)

few_gaps : (packets : List Arrival) → gaps_in packets ≤ length packets
few_gaps [] = omega arith
few_gaps (a ∷ xs) = omega (arith, few_gaps_behind (packet_of a) xs)

-- the numbers of packets, and what is counted of the next
abbrev links_from : PidNumbers → ℕ → ℕ → ℕ → PidNumbers
links_from n heard repeats gaps = record { heard = heard; repeats = repeats; gaps = gaps; units = n.units; bad_check = n.bad_check; delimited = n.delimited; bad_length = n.bad_length }

same_links : (n : PidNumbers) {h i r s g k : ℕ} → h ≡ i → r ≡ s → g ≡ k → links_from n h r g ≡ links_from n i s k
same_links n {h} {i} {r} {s} {g} {k} one two three =
    ap (λ (x : ℕ). links_from n x r g) one ∙ ap (λ (x : ℕ). links_from n i x g) two ∙ ap (λ (x : ℕ). links_from n i s x) three

-- over lists: so many packets came, these were received, and one more comes
module _ (n : PidNumbers) (came : ℕ) (packets : List Arrival) (next : Arrival) (many : length packets ≤ came) (few : came < 2 ^ 32) where
  abbrev so_far : PidNumbers
  so_far = links_from n (length packets) (came - length packets) (gaps_in packets)

  abbrev after : List Arrival → PidNumbers
  after received = links_from n (length received) (came + 1 - length received) (gaps_in received)

  first_counted : packets ≡ [] → counted_link so_far First ≡ after (packets ++ next ∷ [])
  first_counted none = same_links n
      (omega (arith, length-append packets (next ∷ []), many, few))
      (omega (arith, length-append packets (next ∷ []), many, few))
      (ap gaps_in none ∙ sym (ap (λ (t : List Arrival). gaps_in (t ++ next ∷ [])) none))

  next_counted : (before : List ℕ) → last_bytes None packets ≡ Some before → (b : Bool) → continues (fields_of before) (packet_of next) ≡ b
      → counted_link so_far (cond b Next Gap) ≡ after (packets ++ next ∷ [])
  next_counted before last true linked = same_links n
      (omega (arith, length-append packets (next ∷ []), many, few))
      (omega (arith, length-append packets (next ∷ []), many, few))
      (sym (gaps_with packets next before last ∙ ap (λ (b : Bool). gaps_in packets + cond b 0 1) linked ∙ omega arith))
  next_counted before last false linked = same_links n
      (omega (arith, length-append packets (next ∷ []), many, few))
      (omega (arith, length-append packets (next ∷ []), many, few))
      (omega (arith, gaps_with packets next before last, ap (λ (b : Bool). gaps_in packets + cond b 0 1) linked, few_gaps packets, many, few))

  repeat_counted : counted_link so_far Repeat ≡ after (packets ++ [])
  repeat_counted = same_links n
      (sym (ap (λ (t : List Arrival). length t) (append-nil packets)))
      (omega (arith, ap (λ (t : List Arrival). length t) (append-nil packets), many, few))
      (sym (ap gaps_in (append-nil packets)))

  counted_by : (last : Option (List ℕ)) → last ≡ last_bytes None packets
      → counted_link so_far (link_of last next.bytes) ≡ after (packets ++ received_after last (next ∷ []))
  counted_by None same = first_counted (none_before packets (sym same))
  counted_by (Some before) same = repeated (repeats (Some before) next.bytes)
    where
      repeated : (b : Bool) → counted_link so_far (cond b Repeat (cond (continues (fields_of before) (fields_of next.bytes)) Next Gap))
          ≡ after (packets ++ (cond {A = List Arrival} b [] (next ∷ []) ++ []))
      repeated true = repeat_counted
      repeated false = next_counted before (sym same) (continues (fields_of before) (fields_of next.bytes)) refl

-- the numbers with one packet more, before its events are counted
pub link_counted : (form : UnitForm) (pid : ℕ) (records : List Record) (moment : ℕ) (bytes : List ℕ) (last : Option (List ℕ)) (link : Link)
    → last ≡ last_bytes None (received_packets pid records) → is_of pid bytes ≡ true → link ≡ link_of last bytes → length records < 2 ^ 32
    → counted_link (pid_numbers form pid records) link
    ≡ with_events (pid_numbers form pid (records ++ packet_record moment bytes ∷ [])) (events_of form (received_packets pid records))
link_counted form pid records moment bytes last link same of_pid linked few =
    let next : Arrival = packet_at records moment bytes in
    let numbers : PidNumbers = pid_numbers form pid records in
    let packets : List Arrival = received_packets pid records in
    let came : ℕ = length (arrivals pid records) in
    ap (counted_link numbers) linked
    ∙ counted_by numbers came packets next (few_received None (arrivals pid records)) (omega (arith, few_arrivals pid records, few)) last same
    ∙ same_links numbers
    (ap (λ (t : List Arrival). length t) received)
    (ap (λ (t : List Arrival). came + 1 - length t) received
    ∙ ap (λ (k : ℕ). k - length (received_packets pid (records ++ packet_record moment bytes ∷ [])))
    (sym (ap (λ (t : List Arrival). length t) (one_arrived pid records moment bytes of_pid) ∙ length-append (arrivals pid records) (next ∷ []))))
    (ap gaps_in received)
  where
    received : received_packets pid records ++ received_after last (packet_at records moment bytes ∷ []) ≡ received_packets pid (records ++ packet_record moment bytes ∷ [])
    received =
        ap (λ (t : List Arrival). received_packets pid records ++ received_after last t) (sym (is_received pid records moment bytes of_pid))
        ∙ sym (received_more pid records (packet_record moment bytes) last same)
