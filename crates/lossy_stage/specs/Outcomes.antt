-- What playing a command promises of the scene.
use Rattle.std.specs.Prelude.{◌≡◌, Result, MatchResult}
use Rattle.std.specs.declared.alloc.AllocError.{AllocError}
use Rattle.scenes.specs.declared.command.Response.{Response}
use Rattle.scenes.specs.Scenes.{Scene}
use Rattle.scenes.specs.Plays.{Out}

-- it is as played; or there was no memory, and nothing happened
abbrev pub Outcome : Out → Scene → Scene → Result Response AllocError → Type 0
Outcome o s t r = MatchResult r (λ response. o ≡ record { scene = t; response = response }) (λ _. t ≡ s)
