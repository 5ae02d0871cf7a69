-- The office after a list of entries.
use Rattle.std.specs.Prelude.{ℕ, Bool, true, ◌&&◌, List, [], ◌∷◌, nat_le, Option, Some, None, is_none, option_and_then, if◌then◌else◌}
use Rattle.office_types.specs.declared.command.Entry.{Entry}
use Rattle.plain_office.specs.Office.{Office, empty_office}
use Rattle.plain_office.specs.Step.{is_accepted}
use Rattle.plain_office.specs.Once.{kept_for, step_with}

-- the moment is not before the last one, if there is one
abbrev pub is_not_before : Option ℕ → ℕ → Bool
is_not_before None t = true
is_not_before (Some last) t = nat_le last t

-- no reply is kept under the token; always so without a token
abbrev pub is_new : Option (List ℕ) → Office → Bool
is_new token office = is_none (kept_for token office)

-- the office after one more entry. None if its moment is before the last one, its token is not new, or its command is
-- not accepted.
unfoldable pub accept : Office → Entry → Option Office
accept office entry =
    let next = step_with entry.moment entry.token entry.command office in
    if is_not_before office.last entry.moment && is_new entry.token office && is_accepted next.1 then Some next.0
    else None

-- the office after these entries in order; None if one of them is not accepted
abbrev pub run_from : Option Office → List Entry → Option Office
run_from office [] = office
run_from office (entry ∷ entries) = run_from (option_and_then (λ before. accept before entry) office) entries

-- the office after these entries, from the empty office on
unfoldable pub run : List Entry → Option Office
run entries = run_from (Some empty_office) entries
