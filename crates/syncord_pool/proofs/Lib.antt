mod WithoutPlaces
