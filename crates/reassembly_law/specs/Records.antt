-- One record more of a recording.
use Rattle.std.specs.Prelude.{◌≡◌, ℕ, List, [], ◌∷◌, ◌++◌, length, Option, Some, None}
use Rattle.ts_spec.specs.Recording.{Record}
use Rattle.ts_spec.specs.Received.{Arrival, arrival_of, arrivals, received_after, received_packets}

-- the bytes of the last packet of some
abbrev pub last_bytes : Option (List ℕ) → List Arrival → Option (List ℕ)
last_bytes before [] = before
last_bytes before (a ∷ behind) = last_bytes (Some a.bytes) behind

-- what one record more adds to the readable and to the received packets of a PID (ISO/IEC 13818-1 clause 2.4.3.3)
pub record OneRecordMore (pid : ℕ) (records : List Record) (r : Record) : Type 0 where
  pub arrived : arrivals pid (records ++ r ∷ []) ≡ arrivals pid records ++ arrival_of pid (length records) r.moment r.bytes
  -- the packet is received where it differs from the packet received last
  pub received : received_packets pid (records ++ r ∷ []) ≡ received_packets pid records
      ++ received_after (last_bytes None (received_packets pid records)) (arrival_of pid (length records) r.moment r.bytes)
