-- Places of which there is nothing to tell.
use Rattle.std.proofs.Common.{◌≡◌, ◌≤◌, ℕ, ◌+◌, List, Option, Some, Bool, true, false}
use Rattle.std.proofs.Common.{get_or, refl, ap, ◌∙◌, subst, arith, inl, inr, None, replicate}
use Rattle.std.proofs.Math.Nat.{eq-or-lt_of_le}
use Rattle.std.proofs.lemmas.Bool.{ltb-true, ltb-false}
use Rattle.std.proofs.lemmas.List.{get_or-replicate}
use Rattle.std.proofs.lemmas.Option.{get_or_from_slice_get}
use Rattle.std.specs.Prelude.{nat_lt}
use Rattle.bsc_station.specs.declared.party.Party as party_of
use Rattle.bsc_feed.specs.declared.news.News.{News}
use Rattle.bsc_feed.specs.News.{AreQuiet, HasNews, news_at}

module _ {P M : Type 0} (party : party_of.Ghosts P M) (station : P) where
  -- what was found at a place is the news of it
  news_here : (follows : List (Option ℕ)) (place : ℕ) (other : Option ℕ) (news : News)
      (found : Option News) → found ≡ news_at party station place (get_or follows place other)
      → HasNews party station follows place news → found ≡ Some news
  news_here follows place other news found is (next, at, same) =
      is ∙ ap (news_at party station place) (get_or_from_slice_get follows place (Some next) other at)
      ∙ same

  -- one more place is quiet
  pub quiet_more : (follows : List (Option ℕ)) (from here : ℕ) (other : Option ℕ)
      (found : Option News) → found ≡ news_at party station here (get_or follows here other)
      → ((news : News) → found ≡ Some news → ⊥) → AreQuiet party station follows from here
      → AreQuiet party station follows from (here + 1)
  quiet_more follows from here other found is none quiet place news low high has =
      let within : place ≤ here = omega arith in
      elim (eq-or-lt_of_le within) [
        | inl e ↦
            none news
            (news_here follows here other news found is
            (subst (λ (p : ℕ). HasNews party station follows p news) e has))
        | inr below ↦ quiet place news low below has
      ]

  -- all places are quiet, from one of them on and before it
  pub quiet_all : (follows : List (Option ℕ)) (turn to : ℕ)
      → AreQuiet party station follows turn to → AreQuiet party station follows 0 turn
      → AreQuiet party station follows 0 to
  quiet_all follows turn to after before place news low high has = by (nat_lt place turn) refl
    where
      by : (b : Bool) → nat_lt place turn ≡ b → ⊥
      by true e = before place news low (ltb-true place turn e) has
      by false e = after place news (ltb-false place turn e) high has

  -- all places are quiet where none is followed
  pub quiet_none : (count : ℕ) → AreQuiet party station (replicate count None) 0 count
  quiet_none count place news low high (next, at, same) =
      let nothing : Option ℕ = None in
      let followed : get_or (replicate count nothing) place nothing ≡ Some next =
      get_or_from_slice_get (replicate count nothing) place (Some next) nothing at in
      let unfollowed : get_or (replicate count nothing) place nothing ≡ nothing =
      get_or-replicate count place nothing nothing high in
      absurd (cc (followed, unfollowed))
