use Rattle.std.proofs.Common.{◌≡◌, ℕ, ◌+◌, List, [], ◌∷◌, ◌++◌, length, ap, sym, ◌∙◌, subst}
use Rattle.std.proofs.lemmas.List.{length_push}
use Rattle.std.proofs.lemmas.List.Elements.{All-push}
use Rattle.fec_sent_law.specs.Frames.{AreSendable, IsSendable}
use Rattle.fec_tests.proofs.sendable.list_of.Goals as goal

pub loop-number-preserved : goal.loop-number-preserved
loop-number-preserved c =
    let list : List (List ℕ) = c.loop-number.list in
    let d : List ℕ = c.deref.result.now in
    let written : c.push.new.self ≡ list ++ d ∷ [] = c.in_ok-push.ensures.written in
    let it : IsSendable d = subst IsSendable (sym c.deref.ensures.value) c.in_ok-datagram.ensures in
    record {
      sendable = subst AreSendable (sym written) (All-push IsSendable list d c.loop-number.invariant.sendable it);
      count = ap (λ (l : List (List ℕ)). length l) written ∙ length_push list d ∙ ap (λ (n : ℕ). n + 1) c.loop-number.invariant.count;
    }
