-- What a line says is the same, whatever it is put behind.
use Rattle.std.proofs.Common.{ℕ, Bool, true, false, List, [], ◌++◌, sym, ap, ◌∙◌, append-nil, append_assoc}
use Rattle.text.specs.Growth.{Added}
use Rattle.script.specs.Lines.{Plan, empty, play, settle, show, new}
use Rattle.stage.specs.Scenes.{Scene}
use Rattle.rehearsal.specs.Steps.{Does}

behind : (was said more : List ℕ) → Added [] said more → Added was (was ++ said) more
behind was said more a = record { is = ap (λ xs. was ++ xs) a.is }

pub does_behind : (readable : Bool) (plan : Plan) (s t : Scene) (was said : List ℕ) → Does readable plan s t [] said → Does readable plan s t was (was ++ said)
does_behind false plan s t was said d = (d.0, behind was said _ d.1)
does_behind true empty s t was said d = (d.0, ap (λ xs. was ++ xs) d.1 ∙ append-nil was)
does_behind true (play command hex) s t was said d = (d.0, d.1, behind was said _ d.2, d.3)
does_behind true settle s t was said d = (d.0, d.1, behind was said _ d.2)
does_behind true show s t was said d = (d.0, (was ++ d.1.0, record { numbers = d.1.1.numbers; sorted = d.1.1.sorted; said = behind was d.1.0 _ d.1.1.said }, record { is = ap (λ xs. was ++ xs) d.1.2.is ∙ sym (append_assoc was d.1.0 _) }))
does_behind true (new helpers) s t was said d = (d.0, behind was said _ d.1)
