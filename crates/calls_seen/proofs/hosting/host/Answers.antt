-- `host` meets its contract, by that of `host`. Assumes nothing.
use mathlib.Core.Path.{◌≡◌, ap, ◌∙◌}
use Rattle.host.specs.declared.Hosted.{Hosted}
use Rattle.wire_tables.specs.Tables.{lent_edition}
use Rattle.wire.specs.Answers.{valued}
use Rattle.calls_seen.specs.HostCalls.{kvk_host}
use Rattle.calls_seen.proofs.hosting.host.Goals as goal

pub returns : goal.returns
unfolding kvk_host
returns c =
    let a = c.args in
    let under : c.edition_of.result ≡ lent_edition a.table.now = c.edition_of.ensures in
    let same = rw under at c.host-hosted.ensures in
    record { value = c.pack_value.ensures ∙ ap (λ (x : Hosted). valued x.refusal x.length) same.value; room_after = same.room_after }
