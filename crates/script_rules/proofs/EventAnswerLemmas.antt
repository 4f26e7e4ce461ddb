-- An access to an event has at most one right answer.
use Rattle.std.proofs.Common.{◌≡◌, ℕ, sym, ap, ◌∙◌}
use Rattle.std.proofs.lemmas.Nat.Bits.{same_from_bits_below}
use Rattle.board_event_model.specs.declared.access.EventAccess.{EventAccess}
use Rattle.board_event_model.specs.declared.access.EventAccess.TheVariants as access
use Rattle.board_event_model.specs.declared.access.EventAnswer.{EventAnswer}
use Rattle.board_event_model.specs.declared.access.EventAnswer.TheVariants as event_answer
use Rattle.board_event_model.specs.Ids.{Ids, IsWord}
use Rattle.board_event_model.specs.EventMemory.{Event, IsRight, IsWordAnswer}

same_word : (ids : Ids) (k v w : ℕ) → IsWord ids k v → IsWord ids k w → v ≡ w
same_word ids k v w h g = same_from_bits_below 64 v w h.small g.small (λ i low. h.bits i low ∙ sym (g.bits i low))

same_word_answer : (ids : Ids) (k : ℕ) (a b : EventAnswer) → IsWordAnswer ids k a → IsWordAnswer ids k b → a ≡ b
same_word_answer ids k a b h g = h.1 ∙ ap (λ (v : ℕ). event_answer.Word v) (same_word ids k h.0 g.0 h.2 g.2) ∙ sym g.1

pub same_event_answer : (e : Event) (x : EventAccess) (a b : EventAnswer) → IsRight e x a → IsRight e x b → a ≡ b
same_event_answer e access.Listener a b h k = h ∙ sym k
same_event_answer e (access.Set id) a b h k = h ∙ sym k
same_event_answer e access.Post a b h k = h ∙ sym k
same_event_answer e (access.Push id) a b h k = h ∙ sym k
same_event_answer e access.Signal a b h k = h ∙ sym k
same_event_answer e (access.Scan n) a b h k = same_word_answer e.pending n a b h k
same_event_answer e (access.Clear id) a b h k = h.0 ∙ sym k.0
same_event_answer e (access.Swap n) a b h k = same_word_answer e.pending n a b h k
same_event_answer e access.Pop a b h k = h ∙ sym k
