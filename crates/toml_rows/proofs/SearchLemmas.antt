-- The search for a key, a step at a time, and one more part.
use Rattle.std.proofs.Common.{◌≡◌, ℕ, ◌+◌, ◌<◌, ◌≤◌, Bool, true, false, refl, ap, sym, ◌∙◌, arith, inl, inr, ◌⊎◌}
use Rattle.std.proofs.lemmas.Bool.{cases_eq, cases_lt}
use Rattle.toml_rows.specs.Search.{none, Agree, IsSearch, IsAt}

pub agree_less : (f g : ℕ → Bool) (n k : ℕ) → k ≤ n → Agree f g n → Agree f g k
agree_less f g n k le h = λ m low. h m (omega arith)

pub agree_sym : (f g : ℕ → Bool) (n : ℕ) → Agree f g n → Agree g f n
agree_sym f g n h = λ m low. sym (h m low)

pub agree_trans : (f g h : ℕ → Bool) (n : ℕ) → Agree f g n → Agree g h n → Agree f h n
agree_trans f g h n a b = λ m low. a m low ∙ b m low

-- one more bit
pub agree_more : (f g : ℕ → Bool) (n : ℕ) → Agree f g n → f n ≡ g n → Agree f g (n + 1)
agree_more f g n h last = λ m low. elim (cases_eq m n) [
  | inl same ↦ rw same last
  | inr other ↦ h m (omega arith)
]

module _ (n : ℕ) (bit : ℕ → ℕ → Bool) (on : ℕ → Bool) (link : ℕ → Bool → ℕ) (level : ℕ → ℕ) (h : IsSearch n bit on link level) where
  pub at_root : (key : ℕ → Bool) → IsAt n bit on link level key 0 0
  at_root key = record { within = h.some; on_it = h.root; turns = h.top; agree = λ m low. absurd (omega arith) }

  -- the next part
  pub at_next : (key : ℕ → Bool) (at turn : ℕ) → IsAt n bit on link level key at turn → ¬ (link at (key turn) ≡ none)
      → IsAt n bit on link level key (link at (key turn)) (turn + 1)
  at_next key at turn here some =
      let l = h.linked at (key turn) here.within here.on_it some in
      let same : level at ≡ turn = here.turns in
      record {
        within = l.within;
        on_it = l.on_it;
        turns = l.deeper ∙ ap (λ k. k + 1) same;
        agree = agree_more (bit (link at (key turn))) key turn
            (agree_trans (bit (link at (key turn))) (bit at) key turn
            (agree_sym (bit at) (bit (link at (key turn))) turn (rw same at l.agree)) here.agree)
            (rw same at l.side);
      }

  -- a part with the key comes at the link or after it
  pub link_before : (key : ℕ → Bool) (at turn j : ℕ) → IsAt n bit on link level key at turn → at < j → j < n → on j ≡ true
      → ((m : ℕ) → bit j m ≡ key m) → (¬ (link at (key turn) ≡ none)) × (link at (key turn) ≤ j)
  link_before key at turn j here less within there same =
      let turns : level at ≡ turn = here.turns in
      let side : bit j (level at) ≡ key turn = same (level at) ∙ ap key turns in
      let agree : Agree (bit at) (bit j) (level at) = λ m low. here.agree m (omega arith) ∙ sym (same m) in
      rw side at (h.kept at j less within here.on_it there agree)

pub same_bool : (a b : Bool) → (a ≡ b) ⊎ ¬ (a ≡ b)
same_bool true true = inl refl
same_bool true false = inr (λ e. cc)
same_bool false true = inr (λ e. cc)
same_bool false false = inl refl

-- the same functions below n
pub same_search : (n : ℕ) (bit bit' : ℕ → ℕ → Bool) (on on' : ℕ → Bool) (link link' : ℕ → Bool → ℕ) (level level' : ℕ → ℕ)
    → IsSearch n bit on link level → ((i m : ℕ) → i < n → bit' i m ≡ bit i m) → ((i : ℕ) → i < n → on' i ≡ on i)
    → ((i : ℕ) (b : Bool) → i < n → link' i b ≡ link i b) → ((i : ℕ) → i < n → level' i ≡ level i)
    → IsSearch n bit' on' link' level'
same_search n bit bit' on on' link link' level level' h bits ons links levels =
    let agree : (v w k : ℕ) → v < n → w < n → Agree (bit' v) (bit' w) k → Agree (bit v) (bit w) k
    = λ v w k lv lw a m low. sym (bits v m lv) ∙ a m low ∙ bits w m lw in
    record {
      some = h.some;
      root = ons 0 h.some ∙ h.root;
      top = levels 0 h.some ∙ h.top;
      linked = λ v b low there some.
          let e : link' v b ≡ link v b = links v b low in
          let l = h.linked v b low (sym (ons v low) ∙ there) (λ none. some (e ∙ none)) in
          let lv = levels v low in
          let side : bit' (link v b) (level' v) ≡ b = bits (link v b) (level' v) l.within ∙ ap (bit (link v b)) lv ∙ l.side in
          record {
            later = rw e l.later;
            within = rw e l.within;
            on_it = rw e (ons (link v b) l.within ∙ l.on_it);
            deeper = rw e (levels (link v b) l.within ∙ l.deeper ∙ ap (λ k. k + 1) (sym lv));
            agree = λ m small. rw e (bits v m low ∙ l.agree m (rw lv at small) ∙ sym (bits (link v b) m l.within));
            side = rw e side;
          };
      kept = λ v j less within there other a.
          let low : v < n = omega arith in
          let lv = levels v low in
          let side : bit' j (level' v) ≡ bit j (level v) = bits j (level' v) within ∙ ap (bit j) lv in
          let k = h.kept v j less within (sym (ons v low) ∙ there) (sym (ons j within) ∙ other) (rw lv at (agree v j (level' v) low within a)) in
          let e : link' v (bit' j (level' v)) ≡ link v (bit j (level v)) = ap (link' v) side ∙ links v (bit j (level v)) low in
          ((λ none. k.0 (sym e ∙ none)), rw e k.1);
      first = λ v w low low' there other le a.
          h.first v w low low' (sym (ons v low) ∙ there) (sym (ons w low') ∙ other) (omega (arith, levels v low, levels w low'))
          (rw (levels v low) at (agree v w (level' v) low low' a));
    }

module _ (n : ℕ) (bit : ℕ → ℕ → Bool) (on : ℕ → Bool) (link link' : ℕ → Bool → ℕ) (level : ℕ → ℕ) (h : IsSearch n bit on link level) where
  -- one more part, outside the tree
  pub outside : on n ≡ false → ((i : ℕ) (b : Bool) → i < n → link' i b ≡ link i b) → IsSearch (n + 1) bit on link' level
  outside off links =
      let low : (v : ℕ) → v < n + 1 → on v ≡ true → v < n
      = λ v less there. elim (cases_eq v n) [ inl same ↦ let e : on n ≡ true = rw same at there in absurd (cc) | inr other ↦ omega arith ] in
      record {
        some = omega arith;
        root = h.root;
        top = h.top;
        linked = λ v b less there some.
            let e : link' v b ≡ link v b = links v b (low v less there) in
            let l = h.linked v b (low v less there) there (λ none. some (e ∙ none)) in
            record {
              later = rw e l.later;
              within = let w = l.within in rw e (omega arith);
              on_it = rw e l.on_it;
              deeper = rw e l.deeper;
              agree = rw e l.agree;
              side = rw e l.side;
            };
        kept = λ v j less within there other a.
            let k = h.kept v j less (low j within other) there other a in
            let e : link' v (bit j (level v)) ≡ link v (bit j (level v)) = links v (bit j (level v)) (low v (omega arith) there) in
            ((λ none. k.0 (sym e ∙ none)), rw e k.1);
        first = λ v w less less' there other le a. h.first v w (low v less there) (low w less' other) there other le a;
      }

  module _ (at turn : ℕ) (here : IsAt n bit on link level (bit n) at turn) (free : link at (bit n turn) ≡ none) where
    -- parts whose keys begin like that of the new one come before its seat, or below it
    seen : (v : ℕ) → v < n → on v ≡ true → Agree (bit v) (bit n) (level v) → ¬ ((v ≡ at) × (bit n (level v) ≡ bit n turn)) → ¬ (link v (bit n (level v)) ≡ none)
    seen v low there a apart none_there =
        let turns : level at ≡ turn = here.turns in
        elim (cases_eq v at) [
          | inl same ↦ apart (same, ap (bit n) (ap level same ∙ turns))
          | inr other ↦ elim (cases_lt (level v) (level at)) [
            | inl less ↦
                let near : Agree (bit v) (bit at) (level v) =
                agree_trans (bit v) (bit n) (bit at) (level v) a (agree_sym (bit at) (bit n) (level v) (agree_less (bit at) (bit n) turn (level v) (omega arith) here.agree)) in
                let le = h.first v at low here.within there here.on_it (omega arith) near in
                let k = h.kept v at (omega arith) here.within there here.on_it near in
                k.0 (ap (link v) (here.agree (level v) (omega arith)) ∙ none_there)
            | inr more ↦
                let near : Agree (bit at) (bit v) (level at) =
                agree_trans (bit at) (bit n) (bit v) (level at) (rw turns here.agree)
                (agree_sym (bit v) (bit n) (level at) (agree_less (bit v) (bit n) (level v) (level at) more a)) in
                let le = h.first at v here.within low here.on_it there more near in
                elim (cases_eq (level v) (level at)) [
                  | inl tie ↦
                      let back : Agree (bit v) (bit at) (level v) = rw tie (agree_sym (bit at) (bit v) (level at) near) in
                      let le' = h.first v at low here.within there here.on_it (omega arith) back in
                      absurd (other (omega arith))
                  | inr above ↦
                      let k = h.kept at v (omega arith) low here.on_it there near in
                      k.0 (ap (link at) (a (level at) (omega arith) ∙ ap (bit n) turns) ∙ free)
                ]
          ]
        ]

    module _ (small : n < none) (on_new : on n ≡ true) (below : level n ≡ level at + 1) (ends : (b : Bool) → link' n b ≡ none) (to_new : link' at (bit n turn) ≡ n)
        (others : (v : ℕ) (b : Bool) → v < n → ¬ ((v ≡ at) × (b ≡ bit n turn)) → link' v b ≡ link v b) where
      split : (v : ℕ) (b : Bool) → ((v ≡ at) × (b ≡ bit n turn)) ⊎ ¬ ((v ≡ at) × (b ≡ bit n turn))
      split v b = elim (cases_eq v at) [
        | inl same ↦ elim (same_bool b (bit n turn)) [ inl is ↦ inl (same, is) | inr not ↦ inr (λ both. not both.1) ]
        | inr other ↦ inr (λ both. other both.0)
      ]

      -- one more part, at its seat
      pub added : IsSearch (n + 1) bit on link' level
      added =
          let turns : level at ≡ turn = here.turns in
          record {
            some = omega arith;
            root = h.root;
            top = h.top;
            linked = λ v b less there some. elim (cases_eq v n) [
              | inl same ↦ absurd (some (ap (λ i. link' i b) same ∙ ends b))
              | inr older ↦ elim (split v b) [
                | inl both ↦
                    let e : link' v b ≡ n = ap (λ i. link' i b) both.0 ∙ ap (link' at) both.1 ∙ to_new in
                    let lv : level v ≡ level at = ap level both.0 in
                    let w = here.within in
                    record {
                      later = let is = both.0 in rw e (omega arith);
                      within = rw e (omega arith);
                      on_it = rw e on_new;
                      deeper = rw (e, lv) below;
                      agree = rw (e, both.0, turns) here.agree;
                      side = rw (e, lv, turns) (sym both.1);
                    }
                | inr apart ↦
                    let low : v < n = omega arith in
                    let e : link' v b ≡ link v b = others v b low apart in
                    let l = h.linked v b low there (λ none. some (e ∙ none)) in
                    record {
                      later = rw e l.later;
                      within = let w = l.within in rw e (omega arith);
                      on_it = rw e l.on_it;
                      deeper = rw e l.deeper;
                      agree = rw e l.agree;
                      side = rw e l.side;
                    }
              ]
            ];
            kept = λ v j less within there other a.
                let low : v < n = omega arith in
                elim (split v (bit j (level v))) [
                  | inl both ↦ elim (cases_eq j n) [
                    | inl same ↦
                        let e : link' v (bit j (level v)) ≡ n = ap (λ i. link' i (bit j (level v))) both.0 ∙ ap (link' at) both.1 ∙ to_new in
                        ((λ is. let wrong : n ≡ none = sym e ∙ is in absurd (omega arith)), rw e (omega arith))
                    | inr older ↦
                        let k = h.kept v j less (omega arith) there other a in
                        absurd (k.0 (ap (λ i. link i (bit j (level v))) both.0 ∙ ap (link at) both.1 ∙ free))
                  ]
                  | inr apart ↦
                      let e : link' v (bit j (level v)) ≡ link v (bit j (level v)) = others v (bit j (level v)) low apart in
                      elim (cases_eq j n) [
                        | inl same ↦
                            let a' : Agree (bit v) (bit n) (level v) = rw same at a in
                            let s = seen v low there a' (λ both. apart (both.0, ap (λ i. bit i (level v)) same ∙ both.1)) in
                            let s' : ¬ (link v (bit j (level v)) ≡ none) = λ is. s (ap (λ i. link v (bit i (level v))) (sym same) ∙ is) in
                            let l = h.linked v (bit j (level v)) low there s' in
                            let w = l.within in
                            ((λ is. s' (sym e ∙ is)), rw e (omega arith))
                        | inr older ↦
                            let k = h.kept v j less (omega arith) there other a in
                            ((λ is. k.0 (sym e ∙ is)), rw e k.1)
                      ]
                ];
            first = λ v w less less' there other le a. elim (cases_eq w n) [
              | inl same ↦ omega arith
              | inr older ↦ elim (cases_eq v n) [
                | inl same ↦
                    let deeper : level v ≡ level n = ap level same in
                    let a' : Agree (bit n) (bit w) (level n) = rw same at a in
                    let near : Agree (bit at) (bit w) (level at) =
                    agree_trans (bit at) (bit n) (bit w) (level at) (rw turns here.agree) (agree_less (bit n) (bit w) (level n) (level at) (omega arith) a') in
                    let before = h.first at w here.within (omega arith) here.on_it other (omega arith) near in
                    elim (cases_eq at w) [
                      | inl tie ↦ let deep : level at ≡ level w = ap level tie in absurd (omega arith)
                      | inr apart ↦
                          let k = h.kept at w (omega arith) (omega arith) here.on_it other near in
                          absurd (k.0 (ap (link at) (sym (a' (level at) (omega arith)) ∙ ap (bit n) turns) ∙ free))
                    ]
                | inr old ↦ h.first v w (omega arith) (omega arith) there other le a
              ]
            ];
          }
