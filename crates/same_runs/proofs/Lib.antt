mod SameShown
