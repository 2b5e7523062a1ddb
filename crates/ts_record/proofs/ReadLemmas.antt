-- What one call of a reader reads: a stamp and a packet, which are one piece.
use Rattle.std.proofs.Common.{◌≡◌, ℕ, ◌+◌, ◌-◌, List, [], ◌∷◌, ◌++◌, length, take, drop, refl, arith, ap, ap₂, sym, ◌∙◌, subst, Option, Some, None}
use Rattle.std.proofs.lemmas.List.{length-append, length-take-le, length-drop, take-append-drop}
use Rattle.std.proofs.lemmas.List.Elements.{All-push}
use Rattle.std.proofs.Math.Seq.{take-length}
use Rattle.std.specs.Io.KnownBytes.{Consumes}
use Rattle.wire_spec.specs.Causes.{raised}
use Rattle.ipe_io.specs.Told.{InputTold}
use Rattle.ipe_io.specs.Lending.{IsTaken}
use Rattle.ts_spec.specs.Recording.{stamp_size, record_size, records_of}
use Rattle.ts_record.specs.Reading.{ReaderState, ReaderOf, ReadsRecord, LendsRecord, stepped, last_moment, moment_in}
use Rattle.ts_record.proofs.RecordsLemmas.{record_with, record_behind, record_behind-cat, records_of-push, last_moment-push}

-- a piece of a stamp and a packet was taken
pub reads_piece : (reader now_reader : ReaderState) (left now_left : Option (List ℕ)) (taken now_taken : ℕ) (pieces : List (List ℕ)) (piece stamp packet : List ℕ) (moment : Option ℕ)
    → piece ≡ stamp ++ packet → length stamp ≡ stamp_size reader.form → length packet ≡ 188
    → Consumes left now_left piece → now_taken ≡ raised taken (length piece)
    → moment ≡ moment_in reader.form reader.before stamp → now_reader ≡ stepped reader moment → ReaderOf reader pieces
    → ReadsRecord reader now_reader left now_left taken now_taken pieces (record_with moment packet)
reads_piece reader now_reader left now_left taken now_taken pieces piece stamp packet moment parts of_stamp of_packet consumed rose is after stands =
    let size : length piece ≡ record_size reader.form = ap length parts ∙ length-append stamp packet ∙ ap₂ (λ m n. m + n) of_stamp of_packet in
    let seen : record_behind reader.form (last_moment None (records_of reader.form pieces)) piece ≡ record_with moment packet =
    ap (record_behind reader.form (last_moment None (records_of reader.form pieces))) parts
    ∙ record_behind-cat reader.form (last_moment None (records_of reader.form pieces)) moment stamp packet of_stamp
    (is ∙ ap (λ before. moment_in reader.form before stamp) stands.before) in
    let last : records_of reader.form (pieces ++ piece ∷ []) ≡ records_of reader.form pieces ++ record_with moment packet ∷ [] =
    records_of-push reader.form pieces piece ∙ ap (λ r. records_of reader.form pieces ++ r ∷ []) seen in
    subst (λ now_reader. ReadsRecord reader now_reader left now_left taken now_taken pieces (record_with moment packet)) (sym after) (record {
      piece = piece;
      size = size;
      takes = record { bytes_are = consumed; rose = rose };
      last = last;
      stands = record {
        opened = stands.opened;
        each = All-push (λ x. length x ≡ record_size reader.form) pieces piece stands.each size;
        count = ap (λ n. n + 1) stands.count ∙ sym (length-append pieces (piece ∷ []));
        before = sym (ap (last_moment None) last ∙ last_moment-push None (records_of reader.form pieces) (record_with moment packet));
      };
      form = refl;
      tail = refl;
      has_ended = refl;
    })

-- a stamp and a packet were filled
pub reads_record : (reader now_reader : ReaderState) (left now_left : Option (List ℕ)) (taken now_taken count : ℕ) (pieces : List (List ℕ))
    (stamp packet : List ℕ) (moment : Option ℕ)
    → length stamp ≡ stamp_size reader.form → length packet ≡ 188 → count ≡ length stamp + 188
    → Consumes left now_left (take count (stamp ++ packet)) → now_taken ≡ raised taken count
    → moment ≡ moment_in reader.form reader.before stamp → now_reader ≡ stepped reader moment → ReaderOf reader pieces
    → ReadsRecord reader now_reader left now_left taken now_taken pieces (record_with moment packet)
reads_record reader now_reader left now_left taken now_taken count pieces stamp packet moment of_stamp of_packet of_count consumed rose is after stands =
    let all : count ≡ length (stamp ++ packet) = of_count ∙ ap (λ n. length stamp + n) (sym of_packet) ∙ sym (length-append stamp packet) in
    let whole : take count (stamp ++ packet) ≡ stamp ++ packet = ap (λ k. take k (stamp ++ packet)) all ∙ take-length (stamp ++ packet) in
    reads_piece reader now_reader left now_left taken now_taken pieces (stamp ++ packet) stamp packet moment refl of_stamp of_packet
    (subst (Consumes left now_left) whole consumed) (rose ∙ ap (raised taken) all) is after stands

-- a piece was lent
pub lends_piece : (reader now_reader : ReaderState) (told now_told : InputTold) (pieces : List (List ℕ)) (piece stamp packet : List ℕ) (moment : Option ℕ)
    → length piece ≡ record_size reader.form → stamp ≡ take (length piece - 188) piece → packet ≡ drop (length piece - 188) piece
    → moment ≡ moment_in reader.form reader.before stamp → now_reader ≡ stepped reader moment → ReaderOf reader pieces → IsTaken told now_told piece
    → LendsRecord reader now_reader told now_told pieces (Some (record_with moment packet))
lends_piece reader now_reader told now_told pieces piece stamp packet moment size front behind is after stands lent =
    let parts : piece ≡ stamp ++ packet = sym (take-append-drop (length piece - 188) piece) ∙ ap₂ (λ xs ys. xs ++ ys) (sym front) (sym behind) in
    let of_stamp : length stamp ≡ stamp_size reader.form = ap length front ∙ length-take-le (length piece - 188) piece (omega arith) ∙ omega (arith, size) in
    let of_packet : length packet ≡ 188 = ap length behind ∙ length-drop (length piece - 188) piece ∙ omega (arith, size) in (
      reads_piece reader now_reader told.left now_told.left told.taken now_told.taken pieces piece stamp packet moment parts of_stamp of_packet lent.read lent.taken is after stands,
      lent.ended,
      lent.faults,
    )
