-- What a sample loses and delivers, and its summary. Profile: all of it.
use Rattle.std.specs.Prelude.{◌≡◌, ℕ, ◌+◌, ◌*◌, ◌%◌, Bool, not, List, [], ◌∷◌, ◌++◌, length, map, filter, count_by, get_or, nat_lt, codes, decimal}
use Rattle.std.specs.List.{range_with_len}
use Rattle.wire_spec.specs.Causes.{raised}
use Rattle.ts_spec.specs.Recording.{records_of}
use Rattle.plan_spec.specs.Given.{sample_plan}
use Rattle.stream_spec.specs.Stream.{IsStream}
use Rattle.reception_spec.specs.Delivered.{delivered_of}
use Rattle.sample_spec.specs.Draws.{draw_at}
use Rattle.sample_spec.specs.Datagrams.{datagram_count, sample_datagrams}

-- each packet of the stream has one draw, null packets and those of the INT too, after the draws of the datagrams: three of a hundred
-- values drop it
abbrev pub is_dropped : ℕ → ℕ → Bool
is_dropped number place = nat_lt (draw_at number (2 * datagram_count + place) % 100) 3

-- the places of a stream
abbrev pub places : List (List ℕ) → List ℕ
places stream = range_with_len 0 (length stream)

-- how many packets are dropped
abbrev pub dropped_count : ℕ → List (List ℕ) → ℕ
dropped_count number stream = count_by (is_dropped number) (places stream)

-- the recording of the packets that are not dropped
abbrev pub kept_of : ℕ → List (List ℕ) → List (List ℕ)
kept_of number stream = map (λ place. get_or stream place []) (filter (λ place. not (is_dropped number place)) (places stream))

-- how many datagrams a service was sent, and how many of them it delivers, by a counter that stands still at its last value
abbrev pub sent_count : ℕ → ℕ → ℕ
sent_count number k = length (sample_datagrams number 0 k)

abbrev pub delivered_count : ℕ → List (List ℕ) → ℕ → ℕ
delivered_count number stream k = raised 0 (length (delivered_of sample_plan k (records_of sample_plan.recording (kept_of number stream))))

-- a line of the summary: a text and a number
abbrev pub count_line : List ℕ → ℕ → List ℕ
count_line text count = text ++ 32 ∷ decimal count ++ 10 ∷ []

-- a line of the summary: a service's name and its two numbers
abbrev pub service_line : List ℕ → ℕ → ℕ → List ℕ
service_line name sent delivered = name ++ 32 ∷ decimal sent ++ 32 ∷ decimal delivered ++ 10 ∷ []

-- the five lines of the summary, of the number and its stream
abbrev pub sample_text : ℕ → List (List ℕ) → List ℕ
sample_text number stream =
    count_line (codes "offered") datagram_count
    ++ count_line (codes "packets") (length stream)
    ++ count_line (codes "dropped") (dropped_count number stream)
    ++ service_line (codes "lecture") (sent_count number 0) (delivered_count number stream 0)
    ++ service_line (codes "files") (sent_count number 1) (delivered_count number stream 1)

-- the summary of the sample of this number: that of the one stream of its datagrams
pub record IsSummary (number : ℕ) (text : List ℕ) : Type 0 where
  pub stream : List (List ℕ)
  pub is_stream : IsStream sample_plan (sample_datagrams number) stream
  pub text_is : text ≡ sample_text number stream
