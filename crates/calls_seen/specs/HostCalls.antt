-- The host's command under a table: one of another size is an edition that no image passes, so '6900'.
use Rattle.std.specs.Prelude.{ℕ, List}
use Rattle.host.specs.declared.Hosted.{Hosted}
use Rattle.host.specs.Hosting.{hosted_of}
use Rattle.wire_tables.specs.Tables.{lent_edition}
use Rattle.wire.specs.Answers.{valued}

abbrev told : Hosted → ℕ
told h = valued h.refusal h.length

-- the refusal, and how many bytes of answer stand in the room
unfoldable pub kvk_host : List ℕ → List ℕ → List ℕ → List ℕ → ℕ
kvk_host table image command room = told (hosted_of (lent_edition table) image command room)
