-- Worked examples, computed: the first draws, and what comes of the first commands.
use Rattle.std.proofs.Common.{◌≡◌, refl}
use Rattle.std.specs.Prelude.{⊤}
use Rattle.entry_codec.specs.Formats.{front_items}
use Rattle.entry_codec.specs.Fields.{format, moment_format, token_format}
use Rattle.entry_codec.specs.Kinds.{head_format}
use Rattle.entry_codec.specs.Spelling.{command_spelling, fields_spelling, head_spelling, spelling}
use Rattle.meter_journal.specs.History.{journal_bytes}
use Rattle.plain_office.proofs.Examples as office
use Rattle.generator.specs.Draws.{next_state, draw}
use Rattle.generator.specs.Places.{place_after}
use Rattle.generator.specs.Generated.{generated, after_entry, after_entries, tally}

-- what an example unfolds to compute
unfoldable to_compute : ⊤
unfolding next_state place_after generated after_entry after_entries office.to_compute
    journal_bytes spelling command_spelling head_spelling fields_spelling moment_format head_format token_format format front_items
to_compute = tt

-- the first draws of 1
first_draw : draw 0 1 ≡ 908_834_774
unfolding to_compute
first_draw = refl

fourth_draw : draw 3 1 ≡ 822_192_870
unfolding to_compute
fourth_draw = refl

-- nothing is made, and the journal has its head and its first gate
none : tally 1 0 ≡ record { made = 0; accepted = 0; refused = 0; nothing = 0; versions = 0; uploads = 0; journal = 11 }
unfolding to_compute
none = refl

-- the four buckets
four : tally 1 4 ≡ record { made = 4; accepted = 4; refused = 0; nothing = 0; versions = 0; uploads = 0; journal = 95 }
unfolding to_compute
four = refl

-- versioning, rules and prices
eight : tally 1 8 ≡ record { made = 8; accepted = 8; refused = 0; nothing = 0; versions = 0; uploads = 0; journal = 759 }
unfolding to_compute
eight = refl
