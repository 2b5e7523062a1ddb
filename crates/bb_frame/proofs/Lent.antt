-- A frame that was lent.
use Rattle.std.proofs.Common.{◌≡◌, ℕ, List, [], ◌∷◌, ◌++◌, length, ap, sym, subst, Some, arith}
use Rattle.std.proofs.lemmas.List.{length_push}
use Rattle.std.proofs.lemmas.List.Elements.{All-push}
use Rattle.ipe_io.specs.Told.{InputTold}
use Rattle.ipe_io.specs.Lending.{IsTaken}
use Rattle.bb_frame.specs.Reading.{ReaderState, ReaderOf, LendsFrame, stepped}

-- the reader has read one frame more
stands_more : (reader : ReaderState) (frames : List (List ℕ)) (frame : List ℕ) → length frame ≡ reader.size → ReaderOf reader frames → ReaderOf (stepped reader) (frames ++ frame ∷ [])
stands_more reader frames frame size stands = record {
  opened = stands.opened;
  each = All-push (λ it. length it ≡ reader.size) frames frame stands.each size;
  count = omega (arith, stands.count, length_push frames frame);
}

pub lends_frame : (reader now_reader : ReaderState) (source now_source : InputTold) (frames : List (List ℕ)) (frame : List ℕ) → length frame ≡ reader.size
    → now_reader ≡ stepped reader → ReaderOf reader frames → IsTaken source now_source frame → LendsFrame reader now_reader source now_source frames (Some frame)
lends_frame reader now_reader source now_source frames frame size after stands lent = (
  record {
    takes = record { bytes_are = lent.read; rose = lent.taken };
    stands = subst (λ (r : ReaderState). ReaderOf r (frames ++ frame ∷ [])) (sym after) (stands_more reader frames frame size stands);
    size = ap (λ (r : ReaderState). r.size) after;
    tail = ap (λ (r : ReaderState). r.tail) after;
    has_ended = ap (λ (r : ReaderState). r.has_ended) after;
  },
  lent.ended,
  lent.faults,
)
