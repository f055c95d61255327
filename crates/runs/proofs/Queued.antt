-- The messages from one to another are a queue.
use Rattle.std.proofs.Common.{◌≡◌, ℕ, zero, suc, ◌<◌, Bool, true, false, cond, List, [], ◌∷◌, ◌++◌, length, take, drop, sym, refl, ap, ◌∙◌, arith, ◌+◌}
use Rattle.std.specs.List.{remove}
use Rattle.std.proofs.lemmas.List.Elements.{filter-append}
use Rattle.std.proofs.lemmas.List.Sums.{fails_before_first}
use Rattle.std.proofs.lemmas.Bool.Decides.{nat_tests}
use Rattle.coins.specs.declared.ids.NodeId.{NodeId}
use Rattle.coins.specs.declared.mail.Mail.{Mail}
use Rattle.runs.specs.System.{First, no_mail, mail_at, on_line, head}
use Rattle.runs.specs.Lines.{queue, LinesAreQueues}
use Rattle.runs.proofs.Views.{around}

-- before the first of a line there is none of it
none_before : (ms : List Mail) (s r : NodeId) (k : ℕ) → head ms s r ≡ k → queue s r (take k ms) ≡ []
unfolding queue
none_before [] s r zero e = refl
none_before [] s r (suc k) e = refl
none_before (m ∷ ms) s r zero e = refl
none_before (m ∷ ms) s r (suc k) e =
    let f : on_line s r m ≡ false = fails_before_first (on_line s r) (m ∷ ms) 0 no_mail (omega arith) in
    let z : 1 + head ms s r ≡ suc k = rw f at e in rw f (none_before ms s r k (omega arith))

-- a node is its number
pub same_node : (x y : NodeId) → x.number ≡ y.number → x ≡ y
same_node x y q = let z : ◌≡◌ {A = NodeId} (record { number = x.number }) (record { number = y.number }) = cc in z

-- who sends and receives on a line are those of a message on it
pub same_line : (s r : NodeId) (m : Mail) → on_line s r m ≡ true → (s ≡ m.sender) × (r ≡ m.receiver)
same_line s r m e =
    let a : m.sender.number ≡ s.number = grind (arith, nat_tests) in
    let b : m.receiver.number ≡ r.number = grind (arith, nat_tests) in
    (same_node s m.sender (sym a), same_node r m.receiver (sym b))

pub lines_are_queues : LinesAreQueues
unfolding queue
lines_are_queues = record { joins = λ ms m s r. filter-append (on_line s r) ms (m ∷ []); leaves = leaves }
  where
    parts : (ms : List Mail) (k : ℕ) → k < length ms → (s r : NodeId) → queue s r ms ≡ queue s r (take k ms) ++ cond (on_line s r (mail_at ms k)) (mail_at ms k ∷ queue s r (drop (suc k) ms)) (queue s r (drop (suc k) ms))
    parts ms k l s r = ap (λ (xs : List Mail). queue s r xs) (around ms k l) ∙ filter-append (on_line s r) (take k ms) (mail_at ms k ∷ drop (suc k) ms)

    leaves : (ms : List Mail) (k : ℕ) → First ms k → (s r : NodeId) → queue s r ms ≡ cond (on_line s r (mail_at ms k)) (mail_at ms k ∷ []) [] ++ queue s r (remove ms k)
    leaves ms k f s r = go (on_line s r (mail_at ms k)) refl
      where
        go : (b : Bool) → on_line s r (mail_at ms k) ≡ b → queue s r ms ≡ cond (on_line s r (mail_at ms k)) (mail_at ms k ∷ []) [] ++ queue s r (remove ms k)
        go true e =
            let line = same_line s r (mail_at ms k) e in
            let none : queue s r (take k ms) ≡ [] = none_before ms s r k (ap (λ (x : NodeId). head ms x r) line.0 ∙ ap (λ (y : NodeId). head ms (mail_at ms k).sender y) line.1 ∙ f.foremost) in
            let p = parts ms k f.inside s r in
            let q : queue s r (remove ms k) ≡ queue s r (take k ms) ++ queue s r (drop (suc k) ms) = filter-append (on_line s r) (take k ms) (drop (suc k) ms) in
            p ∙ rw (none, e) (sym (ap (λ (xs : List Mail). mail_at ms k ∷ xs) (q ∙ rw none)))
        go false e =
            let p = parts ms k f.inside s r in
            let q : queue s r (remove ms k) ≡ queue s r (take k ms) ++ queue s r (drop (suc k) ms) = filter-append (on_line s r) (take k ms) (drop (suc k) ms) in
            p ∙ rw e (sym q)
