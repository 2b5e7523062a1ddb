-- The text of the numbers of a sample is its summary.
use Rattle.std.proofs.Common.{◌≡◌, ℕ, ◌++◌, List, length, Result, Ok, Err, IfOk, ap, ap₂, codes}
use Rattle.sample_spec.specs.Datagrams.{datagram_count}
use Rattle.sample_spec.specs.Summary.{dropped_count, sent_count, delivered_count, count_line, service_line, sample_text}
use Rattle.sample_command.specs.Numbers.{summary_text}
use Rattle.sample_command.specs.declared.summary.Summary.{Summary}

pub text_same : (number : ℕ) (stream : List (List ℕ)) (it : Summary) → it.packets ≡ length stream → it.dropped ≡ dropped_count number stream
    → it.lecture.sent ≡ sent_count number 0 → it.lecture.delivered ≡ delivered_count number stream 0
    → it.files.sent ≡ sent_count number 1 → it.files.delivered ≡ delivered_count number stream 1 → summary_text it ≡ sample_text number stream
text_same number stream it packets dropped sent delivered sent_of_files delivered_of_files =
    ap₂ (λ (x y : List ℕ). x ++ y)
    (ap₂ (λ (x y : List ℕ). x ++ y)
    (ap₂ (λ (x y : List ℕ). count_line (codes "offered") datagram_count ++ x ++ y) (ap (count_line (codes "packets")) packets) (ap (count_line (codes "dropped")) dropped))
    (ap₂ (service_line (codes "lecture")) sent delivered))
    (ap₂ (service_line (codes "files")) sent_of_files delivered_of_files)

-- what is so of an answer
pub so_of_ok : {T E : Type 0} (r : Result T E) (P Q : T → Type 0) → IfOk r P → ((x : T) → P x → Q x) → IfOk r Q
so_of_ok (Ok x) P Q is follows = follows x is
so_of_ok (Err e) P Q is follows = tt
