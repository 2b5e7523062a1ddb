-- One more record of a recording, and the packets received of a PID.
use Rattle.std.proofs.Common.{◌≡◌, ℕ, Bool, true, false, cond, ◌&&◌, ◌==◌, List, [], ◌∷◌, ◌++◌, length, refl, ap, sym, ◌∙◌, eq-eqb, Option, None, Some, is_some}
use Rattle.std.proofs.lemmas.List.{append-nil}
use Rattle.std.proofs.lemmas.Slice.Eq.{bytes_eq-Decides}
use Rattle.ts_spec.specs.Packet.{fields_of, is_packet, continues}
use Rattle.ts_spec.specs.Recording.{Record}
use Rattle.ts_spec.specs.Received.{Arrival, is_of, arrival_of, arrivals, repeats, received_after, received_packets}
use Rattle.reassembly_law.specs.Records.{last_bytes}
use Rattle.reassembly_law.proofs.OneRecord.{one_more}
use Rattle.ts_packet.specs.declared.continuity.Link.{Link}
use Rattle.ts_packet.specs.declared.continuity.Link.TheVariants.{Next, Repeat, Gap}
use Rattle.ts_packet.specs.Links.{link_of}
use Rattle.unit_stream.specs.Joining.{packets_with}
use Rattle.service_reception.specs.Reception.{packet_record}
use Rattle.reception_spec.specs.Packets.{is_on}

-- the packet that the record is, as a list of at most one
abbrev pub packet_in : ℕ → List Record → Record → List Arrival
packet_in pid records r = arrival_of pid (length records) r.moment r.bytes

-- the received packets, with one record more
pub received_more : (pid : ℕ) (records : List Record) (r : Record) (last : Option (List ℕ)) → last ≡ last_bytes None (received_packets pid records)
    → received_packets pid (records ++ r ∷ []) ≡ received_packets pid records ++ received_after last (packet_in pid records r)
received_more pid records r last same =
    (one_more pid records r).received
    ∙ ap (λ (l : Option (List ℕ)). received_packets pid records ++ received_after l (packet_in pid records r)) (sym same)

-- a record that is no packet of the PID
no_packet_in : (pid : ℕ) (records : List Record) (r : Record) → is_on pid r ≡ false → packet_in pid records r ≡ []
no_packet_in pid records r off = timed r.moment refl
  where
    timed : (moment : Option ℕ) → r.moment ≡ moment → arrival_of pid (length records) moment r.bytes ≡ []
    timed None same = refl
    timed (Some m) same =
        ap (λ (b : Bool). cond {A = List Arrival} b (record { place = length records; moment = m; bytes = r.bytes } ∷ []) [])
        (sym (ap (λ (t : Option ℕ). is_some t && is_of pid r.bytes) same) ∙ off)

pub none_arrived : (pid : ℕ) (records : List Record) (r : Record) → is_on pid r ≡ false → arrivals pid (records ++ r ∷ []) ≡ arrivals pid records
none_arrived pid records r off =
    (one_more pid records r).arrived ∙ ap (λ (t : List Arrival). arrivals pid records ++ t) (no_packet_in pid records r off) ∙ append-nil (arrivals pid records)

pub none_received : (pid : ℕ) (records : List Record) (r : Record) → is_on pid r ≡ false → received_packets pid (records ++ r ∷ []) ≡ received_packets pid records
none_received pid records r off = ap (received_after None) (none_arrived pid records r off)

-- the packet that a record is
abbrev pub packet_at : List Record → ℕ → List ℕ → Arrival
packet_at records moment bytes = record { place = length records; moment = moment; bytes = bytes }

pub is_received : (pid : ℕ) (records : List Record) (moment : ℕ) (bytes : List ℕ) → is_of pid bytes ≡ true → packet_in pid records (packet_record moment bytes) ≡ packet_at records moment bytes ∷ []
is_received pid records moment bytes of_pid = ap (λ (b : Bool). cond {A = List Arrival} b (packet_at records moment bytes ∷ []) []) of_pid

pub one_arrived : (pid : ℕ) (records : List Record) (moment : ℕ) (bytes : List ℕ) → is_of pid bytes ≡ true
    → arrivals pid (records ++ packet_record moment bytes ∷ []) ≡ arrivals pid records ++ packet_at records moment bytes ∷ []
one_arrived pid records moment bytes of_pid =
    (one_more pid records (packet_record moment bytes)).arrived ∙ ap (λ (t : List Arrival). arrivals pid records ++ t) (is_received pid records moment bytes of_pid)

pub is_of_read : (pid : ℕ) (bytes : List ℕ) → is_packet bytes ≡ true → (fields_of bytes).pid ≡ pid → is_of pid bytes ≡ true
is_of_read pid bytes read same = ap (λ (b : Bool). b && ((fields_of bytes).pid == pid)) read ∙ eq-eqb (fields_of bytes).pid pid same

-- what the link says of the packets received
packets_linked : (last : Option (List ℕ)) (packets : List Arrival) (next : Arrival) → packets_with (link_of last next.bytes) packets next ≡ packets ++ received_after last (next ∷ [])
packets_linked None packets next = refl
packets_linked (Some before) packets next = repeated (repeats (Some before) next.bytes)
  where
    linked : (b : Bool) → packets_with (cond b Next Gap) packets next ≡ packets ++ next ∷ []
    linked true = refl
    linked false = refl

    repeated : (b : Bool) → packets_with (cond b Repeat (cond (continues (fields_of before) (fields_of next.bytes)) Next Gap)) packets next
        ≡ packets ++ (cond {A = List Arrival} b [] (next ∷ []) ++ [])
    repeated true = sym (append-nil packets)
    repeated false = linked (continues (fields_of before) (fields_of next.bytes))

last_bytes-append : (before : Option (List ℕ)) (xs ys : List Arrival) → last_bytes before (xs ++ ys) ≡ last_bytes (last_bytes before xs) ys
last_bytes-append before [] ys = refl
last_bytes-append before (x ∷ xs) ys = last_bytes-append (Some x.bytes) xs ys

-- the packet received last is this one, or equals it
last_received : (last : Option (List ℕ)) (next : Arrival) → Some next.bytes ≡ last_bytes last (received_after last (next ∷ []))
last_received None next = refl
last_received (Some before) next = repeated (repeats (Some before) next.bytes) refl
  where
    repeated : (b : Bool) → repeats (Some before) next.bytes ≡ b → Some next.bytes ≡ last_bytes (Some before) (cond {A = List Arrival} b [] (next ∷ []) ++ [])
    repeated true e = ap (λ (x : List ℕ). Some x) (sym ((bytes_eq-Decides before next.bytes).0 e))
    repeated false e = refl

-- the packets received with a packet of the PID
pub received_with : (pid : ℕ) (records : List Record) (moment : ℕ) (bytes : List ℕ) (last : Option (List ℕ)) (link : Link) → last ≡ last_bytes None (received_packets pid records)
    → is_of pid bytes ≡ true → link ≡ link_of last bytes
    → packets_with link (received_packets pid records) (packet_at records moment bytes) ≡ received_packets pid (records ++ packet_record moment bytes ∷ [])
received_with pid records moment bytes last link same of_pid linked =
    ap (λ (l : Link). packets_with l (received_packets pid records) (packet_at records moment bytes)) linked
    ∙ packets_linked last (received_packets pid records) (packet_at records moment bytes)
    ∙ ap (λ (t : List Arrival). received_packets pid records ++ received_after last t) (sym (is_received pid records moment bytes of_pid))
    ∙ sym (received_more pid records (packet_record moment bytes) last same)

pub last_with : (pid : ℕ) (records : List Record) (moment : ℕ) (bytes : List ℕ) (last : Option (List ℕ)) → last ≡ last_bytes None (received_packets pid records)
    → is_of pid bytes ≡ true → Some bytes ≡ last_bytes None (received_packets pid (records ++ packet_record moment bytes ∷ []))
last_with pid records moment bytes last same of_pid =
    let next : Arrival = packet_at records moment bytes in
    last_received last next
    ∙ ap (λ (l : Option (List ℕ)). last_bytes l (received_after last (next ∷ []))) same
    ∙ sym (last_bytes-append None (received_packets pid records) (received_after last (next ∷ [])))
    ∙ ap (λ (t : List Arrival). last_bytes None (received_packets pid records ++ received_after last t)) (sym (is_received pid records moment bytes of_pid))
    ∙ ap (last_bytes None) (sym (received_more pid records (packet_record moment bytes) last same))
