-- The messages from one to another are a queue.
use Rattle.std.specs.Prelude.{◌≡◌, ℕ, cond, List, [], ◌∷◌, ◌++◌, filter}
use Rattle.std.specs.List.{remove}
use Rattle.coins.specs.declared.ids.NodeId.{NodeId}
use Rattle.coins.specs.declared.mail.Mail.{Mail}
use Rattle.runs.specs.System.{First, mail_at, on_line}

-- what is under way from s to r, the oldest first
unfoldable pub queue : NodeId → NodeId → List Mail → List Mail
queue s r ms = filter (on_line s r) ms

-- What is sent goes to the end of its queue and to no other; what comes is the head of its queue, and the others stay.
pub record Queues : Type 0 where
  pub joins : (ms : List Mail) (m : Mail) (s r : NodeId) → queue s r (ms ++ m ∷ []) ≡ queue s r ms ++ cond (on_line s r m) (m ∷ []) []
  pub leaves : (ms : List Mail) (k : ℕ) → First ms k → (s r : NodeId) → queue s r ms ≡ cond (on_line s r (mail_at ms k)) (mail_at ms k ∷ []) [] ++ queue s r (remove ms k)

abbrev pub LinesAreQueues : Type 0
LinesAreQueues = Queues
