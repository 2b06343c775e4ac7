-- What fits, and so does what it needs, without a circle.

pub data Founded {A : Type 0} (Needs : A → A → Type 0) (Fits : A → Type 0) : A → Type 0 where
  founded : (one : A)
      → Fits one
      → ((other : A) → Needs one other → Founded Needs Fits other)
      → Founded Needs Fits one

-- by one need or more
pub data Leads {A : Type 0} (Needs : A → A → Type 0) : A → A → Type 0 where
  leads_at_once : (one other : A) → Needs one other → Leads Needs one other
  leads_on : (one other last : A) → Needs one other → Leads Needs other last → Leads Needs one last
